-- Measuring and the rows 13, 14, 15 and 24 of the table of numbers: an item that is measured has none of their reasons; bytes that are refused have one with
-- the refusal's number, and every other one belongs to a later step.
-- Assumes nothing.
use Rattle.std.specs.Prelude.{if◌then◌else◌}
use mathlib.Core.Path.{◌≡◌, refl, sym, ap, ◌∙◌}
use mathlib.Core.Logic.{◌≢◌}
use Prim.Native.Nat.{ℕ, zero, suc, ◌+◌, ◌≤◌, ◌<◌}
use native.Mathlib.Omega.{arith}
use mathlib.Core.Bool.{Bool, true, false, true≢false}
use mathlib.Core.List.{List, [], ◌∷◌}
use mathlib.Core.Option.{some}
use lib.Dec.{eqb}
use lib.ListN.{length, take}
use borrow.Author.Tests.{eqb-true, leb-true, eqb-false, le-leb, ne_eqb}
use Rattle.fdoca.specs.Basics.{lookup, big, elem}
use Rattle.fdoca.specs.FieldType.{FieldType, fixed_bytes, variable_bytes, terminated_bytes, short_bytes, integer, reversed_integer, packed_decimal, hex_float, reversed_float, binary_float, types, plain, type_of, LengthField, signed_two, unsigned_one, Layout, fixed, counted, terminated, rule_of}
use Rattle.fdoca.specs.Item.{Field, field_length, Measured, refused, item, Space, unbounded, limited, reserved, space, width, is_negative, is_over, indicated, before_zero, measure_value, measure_nullable, measure_item, measure}
use Rattle.fdoca.specs.Account.{FixedLength, string, binary, binary_reversed, packed, float_hex, float_reversed, float}
use Rattle.fdoca.specs.Reasons as R
use Rattle.fdoca.specs.Reasons.{OneOf, here, there, HasType, Behind, no_indicator, high_bit_0, L, of_two, of_one, Sent, NoZero, ShortData, indicator, length_two, length_one, not_yet, BadCount, NoEnd, none_zero, BadIndicator, from_01_to_7f, OfItem, short_data, bad_indicator, bad_count, no_end}
use Rattle.fdoca.proofs.Table.{looked_up}
use Rattle.fdoca.proofs.TypeRows.{elem_in, plain_low, plain_high, plain_code, type_plain}
use Rattle.fdoca.proofs.Tests.{by_le, by_eq}
use Rattle.fdoca.proofs.Account.{big_one, big_two, fixed_layout, space_none, space_limit, space_full, over, over_of}
use Rattle.fdoca.proofs.ItemTests.{before_zero_within, sent, CutOff, Against, short, short_L, negative, over_F, short_body, no_zero, endless, behind_indicator, Earliest, Judged, judged_map, judged_value}

-- THE TYPE CODES.

-- what holds of each of several numbers holds of one of them
infixr 20 ◌&◌
data All (P : ℕ → Type 0) : List ℕ → Type 0 where
  end : All P []
  ◌&◌ : {n : ℕ} {ns : List ℕ} → P n → All P ns → All P (n ∷ ns)

among : (P : ℕ → Type 0) {n : ℕ} {ns : List ℕ} → OneOf n ns → All P ns → P n
among P (here e) (p & ps) = rw e p
among P (there h) (p & ps) = among P h ps

pub has_plain : (f : Field) → HasType f (plain f.code)
has_plain f = by_le (HasType f) 128 f.code (λ h. there (here (omega arith))) (λ h. here refl)

pub has_type : (f : Field) → type_of f.code ≡ some f.type → HasType f (plain_code f.type)
has_type f typed = rw (type_plain f.code f.type typed) at (has_plain f)

pub plain_of : (c n : ℕ) → c < 128 → OneOf n (c ∷ (c + 0x80) ∷ []) → plain n ≡ c
plain_of c n h (here e) = rw e (sym (plain_low c h))
plain_of c n h (there (here e)) = rw e (omega (arith, plain_high (c + 0x80) (omega arith)))
plain_of c n h (there (there x8)) = elim x8 [ ]

-- the code that a layout's types have, nullable or not
abbrev fixed_codes : List ℕ
fixed_codes = 0x01 ∷ 0x23 ∷ 0x24 ∷ 0x30 ∷ 0x40 ∷ 0x47 ∷ 0x48 ∷ []

abbrev length_code : LengthField → ℕ
length_code signed_two = 0x02
length_code unsigned_one = 0x07

abbrev Codes : ℕ → Layout → Type 0
Codes c fixed = OneOf c fixed_codes
Codes c (counted k) = c ≡ length_code k
Codes c terminated = c ≡ 0x03

abbrev codes : ℕ → Layout → Bool
codes c fixed = elem c fixed_codes
codes c (counted k) = eqb c (length_code k)
codes c terminated = eqb c 0x03

codes_are : (c : ℕ) (l : Layout) → codes c l ≡ true → Codes c l
codes_are c fixed h = elem_in c fixed_codes h
codes_are c (counted k) h = eqb-true c (length_code k) h
codes_are c terminated h = eqb-true c 0x03 h

module _ (f : Field) (typed : type_of f.code ≡ some f.type) where
  code_is : Codes (plain f.code) (rule_of f.type).layout
  unfolding type_of rule_of
  code_is = codes_are (plain f.code) (rule_of f.type).layout (looked_up (λ c T. codes c (rule_of T).layout) (plain f.code) types f.type refl typed)

  -- a type code of the table, and the type that stands there
  pub type_is : (c : ℕ) (T : FieldType) → c < 128 → lookup c types ≡ some T → HasType f c → f.type ≡ T
  unfolding type_of
  type_is c T h e t =
      let k : lookup c types ≡ some f.type = rw (plain_of c f.code h t) at typed in
      cc

  counted_is : (k : LengthField) → HasType f (length_code k) → (rule_of f.type).layout ≡ counted k
  unfolding rule_of
  counted_is signed_two t = rw (type_is 0x02 variable_bytes (omega arith) refl t)
  counted_is unsigned_one t = rw (type_is 0x07 short_bytes (omega arith) refl t)

  terminated_is : HasType f 0x03 → (rule_of f.type).layout ≡ terminated
  unfolding rule_of
  terminated_is t = rw (type_is 0x03 terminated_bytes (omega arith) refl t)

  fixed_is : (c : ℕ) → OneOf c fixed_codes → HasType f c → (rule_of f.type).layout ≡ fixed
  fixed_is c o t =
      let q = among (λ c. (T : FieldType) × FixedLength T × (c < 128) × (lookup c types ≡ some T)) o
      ((fixed_bytes, string, omega arith, refl)
      & (integer, binary, omega arith, refl)
      & (reversed_integer, binary_reversed, omega arith, refl)
      & (packed_decimal, packed, omega arith, refl)
      & (hex_float, float_hex, omega arith, refl)
      & (reversed_float, float_reversed, omega arith, refl)
      & (binary_float, float, omega arith, refl)
      & end) in
      rw (type_is c q.0 q.2 q.3 t) (fixed_layout q.1)

-- ZERO BYTES, by the place of the first.

first_zero : (n : ℕ) (s : List ℕ) → NoZero n s → n ≤ before_zero s
unfolding before_zero
first_zero zero s h = omega arith
first_zero (suc n) [] h = absurd (h 0 (omega arith) refl)
first_zero (suc n) (b ∷ s) h =
    rw (ne_eqb b 0 (h 0 (omega arith))) (let q : n ≤ before_zero s = first_zero n s (λ i k. h (suc i) (omega arith)) in omega arith)

none_before : (s : List ℕ) (i : ℕ) → i < before_zero s → R.byte s i ≢ 0
unfolding before_zero
none_before [] i h = absurd (let z : ⊥ = omega arith in z)
none_before (b ∷ s) i h = go (eqb b 0) i refl h (λ j k. none_before s j k)
  where
    go : (z : Bool) (i : ℕ) → eqb b 0 ≡ z → i < (if z then 0 else suc (before_zero s)) → ((j : ℕ) → j < before_zero s → R.byte s j ≢ 0)
        → R.byte (b ∷ s) i ≢ 0
    go true i t k ih = absurd (let z : ⊥ = omega arith in z)
    go false zero t k ih = eqb-false b 0 t
    go false (suc i) t k ih = ih i (omega arith)

-- THE ROWS, each by the test that finds it.

module _ (f : Field) where
  abbrev F : ℕ
  F = field_length f

  abbrev AgainstValue : List ℕ → ℕ → ℕ → Type 0
  AgainstValue v = Against F v (rule_of f.type).layout (space f.mode F)

  data Seen (s : List ℕ) : (step number : ℕ) → Type 0 where
    missing : 128 ≤ f.code → s ≡ [] → Seen s 0 13
    bad : BadIndicator f s → Seen s 0 24
    found : {v : List ℕ} {i m : ℕ} → Behind f s v → AgainstValue v i m → Seen s i m

  one_behind : {s v w : List ℕ} → Behind f s v → Behind f s w → w ≡ v
  one_behind (no_indicator h) (no_indicator k) = refl
  one_behind (no_indicator h) (high_bit_0 k l) = absurd (let z : ⊥ = omega arith in z)
  one_behind (high_bit_0 h l) (no_indicator k) = absurd (let z : ⊥ = omega arith in z)
  one_behind (high_bit_0 h l) (high_bit_0 k r) = refl

  never_missing : {s v : List ℕ} → Behind f s v → 128 ≤ f.code → s ≡ [] → ⊥
  never_missing (no_indicator h) k e = omega arith
  never_missing (high_bit_0 h l) k e = let z : ◌≡◌ {A = ℕ} 0 1 = cc in omega arith

  has_indicator : {s : List ℕ} → BadIndicator f s → 128 ≤ f.code
  has_indicator (from_01_to_7f h a c) = h

  -- with the bytes behind any null indicator, what is found is found there
  judged_behind : {s v : List ℕ} (x : Measured) → Behind f s v → (BadIndicator f s → ⊥) → Judged (AgainstValue v) x → Judged (Seen s) x
  judged_behind {s} {v} x b good = judged_map x (λ i m w. found b w) (λ i m w. back w)
    where
      back : {i m : ℕ} → Seen s i m → AgainstValue v i m
      back (missing h e) = absurd (never_missing b h e)
      back (bad w) = absurd (good w)
      back (found c w) = rw (one_behind b c) at w

  judged_indicated : (P : ℕ → ℕ → Type 0) (x : Measured) → Judged P x → Judged P (indicated x)
  judged_indicated P (refused n) h = h
  judged_indicated P (item z p v r) h = h

  judged_at : (v : List ℕ) → Judged (AgainstValue v) (measure_value (rule_of f.type).layout f.mode F v)
  judged_at v = judged_value F v (rule_of f.type).layout f.mode

  judged_nullable : (s : List ℕ) → 128 ≤ f.code → Judged (Seen s) (measure_nullable (rule_of f.type).layout f.mode F s)
  unfolding measure_nullable
  judged_nullable [] h = record { step = 0; reason = missing h refl; others = λ i m w. only w }
    where
      only : {i m : ℕ} → Seen [] i m → (0 ≤ i) × (i ≡ 0 → m ≡ 13)
      only (missing k e) = omega arith
      only (bad x4) = elim x4 [ ]
      only (found (no_indicator k) w) = absurd (let z : ⊥ = omega arith in z)
  judged_nullable (b ∷ s) h =
      by_eq (Judged (Seen (b ∷ s))) b _
      (λ k. judged_indicated (Seen (b ∷ s)) (measure_value (rule_of f.type).layout f.mode F s)
      (judged_behind (measure_value (rule_of f.type).layout f.mode F s) (high_bit_0 h (omega arith)) (zero_good k) (judged_at s)))
      (λ k. by_le (Judged (Seen (b ∷ s))) _ b (λ l i m w. none l w)
      (λ l. record { step = 0; reason = bad (from_01_to_7f h (omega arith) (omega arith)); others = λ i m w. only w }))
    where
      zero_good : b ≡ 0 → BadIndicator f (b ∷ s) → ⊥
      zero_good k (from_01_to_7f l a c) = omega arith

      only : {i m : ℕ} → Seen (b ∷ s) i m → (0 ≤ i) × (i ≡ 0 → m ≡ 24)
      only (missing k e) = absurd (let z : ◌≡◌ {A = ℕ} 0 1 = cc in let w : ⊥ = omega arith in w)
      only (bad k) = omega arith
      only (found k w) = omega (arith, behind_indicator w)

      none : {i m : ℕ} → 128 ≤ b → Seen (b ∷ s) i m → ⊥
      none k (missing l e) = let z : ◌≡◌ {A = ℕ} 0 1 = cc in omega arith
      none k (bad (from_01_to_7f l a c)) = omega arith
      none k (found (no_indicator l) w) = omega arith
      none k (found (high_bit_0 l r) w) = omega arith

  judged_seen : (s : List ℕ) → Judged (Seen s) (measure f s)
  unfolding measure measure_item
  judged_seen s =
      by_le (Judged (Seen s)) 128 f.code (λ h. judged_nullable s h)
      (λ h. judged_behind (measure_value (rule_of f.type).layout f.mode F s) (no_indicator h) (λ w. omega (arith, has_indicator w)) (judged_at s))

module _ (f : Field) where
  abbrev sp : Space
  sp = space f.mode (field_length f)

  -- the space that mode and F set aside, with what is known of them
  data Spaced : Space → Type 0 where
    without_limit : field_length f ≡ 0 → Spaced unbounded
    at_most_F : 0 < field_length f → f.mode ≡ 1 → Spaced (limited (field_length f))
    all_of_F : 0 < field_length f → f.mode ≡ 0 → Spaced (reserved (field_length f))

  space_is : {q : Space} → Spaced q → sp ≡ q
  space_is (without_limit e) = space_none f.mode (field_length f) e
  space_is (at_most_F h e) = space_limit f.mode (field_length f) (λ z. omega arith) (λ z. omega arith)
  space_is (all_of_F h e) = space_full f.mode (field_length f) (λ z. omega arith) e

  spaced : f.mode ≤ 1 → Spaced sp
  unfolding space
  spaced known =
      by_eq Spaced (field_length f) 0 (λ h. without_limit h)
      (λ h. by_eq Spaced f.mode 0 (λ k. all_of_F (omega arith) k) (λ k. at_most_F (omega arith) (omega arith)))

  sent_is : {n m : ℕ} → Sent f n m → m ≡ sent sp n
  sent_is (Sent.no_limit e) = rw (space_is (without_limit e))
  sent_is (Sent.value_only h e) = rw (space_is (at_most_F h e))
  sent_is (Sent.reserved h e) = rw (space_is (all_of_F h e))

  sent_of : {q : Space} (n : ℕ) → Spaced q → Sent f n (sent q n)
  sent_of n (without_limit e) = Sent.no_limit e
  sent_of n (at_most_F h e) = Sent.value_only h e
  sent_of n (all_of_F h e) = Sent.reserved h e

  above : (n : ℕ) → 0 < field_length f → field_length f < n → is_over sp n ≡ true
  above n h k = over f.mode (field_length f) n (λ z. omega arith) k

  length_of : (k : LengthField) (v : List ℕ) → HasType f (length_code k) → width k ≤ length v → L f (width k) v (big (take (width k) v))
  length_of signed_two (a ∷ b ∷ v) t h = rw (big_two a b) (of_two t)
  length_of signed_two [] t h = absurd (let z : ⊥ = omega arith in z)
  length_of signed_two (a ∷ []) t h = absurd (let z : ⊥ = omega arith in z)
  length_of unsigned_one (a ∷ v) t h = rw (big_one a) (of_one t)
  length_of unsigned_one [] t h = absurd (let z : ⊥ = omega arith in z)

  module _ {s v : List ℕ} (b : Behind f s v) where
    short_length : (k : LengthField) → HasType f (length_code k) → length v < width k → ShortData f 1 s
    short_length signed_two t h = length_two b t h
    short_length unsigned_one t h = length_one b t h

    negative_length : (k : LengthField) → HasType f (length_code k) → width k ≤ length v → is_negative k (big (take (width k) v)) ≡ true → BadCount f s
    negative_length signed_two t h e = BadCount.negative b (length_of signed_two v t h) (leb-true 0x8000 (big (take 2 v)) e)
    negative_length unsigned_one t h e = absurd (true≢false (sym e))

    cut_off : {q : Space} → Spaced q → HasType f 0x03 → CutOff v q → ShortData f 3 s
    cut_off (without_limit e) t c = ShortData.no_limit b t e (λ i h. none_before v i (omega arith))
    cut_off (at_most_F h e) t c = not_yet b t h e (omega arith) (λ i h. none_before v i (omega arith))
    cut_off (all_of_F h e) t c = ShortData.reserved b t h e (omega arith)

module _ (f : Field) (typed : type_of f.code ≡ some f.type) where
  -- an L that is there, as the bytes of a length field
  record Counted (w : ℕ) (v : List ℕ) (n : ℕ) : Type 0 where
    kind : LengthField
    layout_is : (rule_of f.type).layout ≡ counted kind
    width_is : w ≡ width kind
    number : n ≡ big (take (width kind) v)
    long : width kind ≤ length v

  counted_by : {w n : ℕ} {v : List ℕ} → L f w v n → Counted w v n
  counted_by (of_two {a = a} {b = b} t) =
      record { kind = signed_two; layout_is = counted_is f typed signed_two t; width_is = refl; number = sym (big_two a b); long = omega arith }
  counted_by (of_one {a = a} t) =
      record { kind = unsigned_one; layout_is = counted_is f typed unsigned_one t; width_is = refl; number = sym (big_one a); long = omega arith }

  -- a row is found by a test
  seen_by : {s v : List ℕ} {l : Layout} {q : Space} {i m : ℕ} → Behind f s v → (rule_of f.type).layout ≡ l → sp f ≡ q
      → Against (field_length f) v l q i m → Seen f s i m
  seen_by {i = i} {m = m} b e u w = found {i = i} {m = m} b (rw (e, u) w)

  seen_short : {i : ℕ} {s : List ℕ} → ShortData f i s → Seen f s i 13
  seen_short (indicator h) = missing h refl
  seen_short (length_two b t h) = seen_by b (counted_is f typed signed_two t) refl (short_L h)
  seen_short (length_one b t h) = seen_by b (counted_is f typed unsigned_one t) refl (short_L h)
  seen_short (ShortData.counted {v = v} {m = m} b l t h) =
      let q = counted_by l in
      let e : m ≡ sent (sp f) (big (take (width q.kind) v)) = sent_is f t ∙ ap (sent (sp f)) q.number in
      seen_by b q.layout_is refl (short_body q.long (omega (arith, q.width_is)))
  seen_short (ShortData.fixed c b t o h) = seen_by b (fixed_is f typed c o t) refl (short h)
  seen_short (ShortData.no_limit {v = v} b t e z) =
      seen_by b (terminated_is f typed t) (space_is f (without_limit e)) (no_zero (first_zero (length v) v z))
  seen_short (not_yet {v = v} b t h e l z) =
      seen_by b (terminated_is f typed t) (space_is f (at_most_F h e)) (no_zero (first_zero (length v) v z, omega arith))
  seen_short (ShortData.reserved b t h e l) = seen_by b (terminated_is f typed t) (space_is f (all_of_F h e)) (no_zero (omega arith))

  below_zero : (k : LengthField) (n : ℕ) → 2 ≡ width k → 0x8000 ≤ n → is_negative k n ≡ true
  below_zero signed_two n e h = le-leb 0x8000 n h
  below_zero unsigned_one n e h = absurd (let z : ⊥ = omega arith in z)

  seen_count : {s : List ℕ} → BadCount f s → Seen f s 2 14
  seen_count (BadCount.negative {v = v} b l h) =
      let q = counted_by l in
      seen_by b q.layout_is refl (negative q.long (below_zero q.kind (big (take (width q.kind) v)) q.width_is (omega (arith, q.number))))
  seen_count (BadCount.over_F {n = n} b l p h) =
      let q = counted_by l in
      seen_by b q.layout_is refl (over_F q.long (rw q.number at (above f n p h)))

  seen_end : {s : List ℕ} → NoEnd f s → Seen f s 3 15
  seen_end (none_zero {v = v} b t p h z) =
      let q : field_length f + 1 ≤ before_zero v = first_zero (field_length f + 1) v z in
      seen_by b (terminated_is f typed t) refl (endless (above f (before_zero v) p (omega arith)))

  seen : {s : List ℕ} {i m : ℕ} → OfItem f s i m → Seen f s i m
  seen (short_data h) = seen_short h
  seen (bad_indicator h) = bad h
  seen (bad_count h) = seen_count h
  seen (no_end h) = seen_end h

  -- the code of a field whose type has a length field, or a terminator
  length_code_lem : (k : LengthField) → (rule_of f.type).layout ≡ counted k → HasType f (length_code k)
  length_code_lem k e = let c : plain f.code ≡ length_code k = rw e at (code_is f typed) in rw c at (has_plain f)

  end_code : (rule_of f.type).layout ≡ terminated → HasType f 0x03
  end_code e = let c : plain f.code ≡ 0x03 = rw e at (code_is f typed) in rw c at (has_plain f)

  -- a test finds a row
  row_of : {s v : List ℕ} {l : Layout} {q : Space} {i m : ℕ} → Spaced f q → Behind f s v → (rule_of f.type).layout ≡ l → sp f ≡ q
      → Against (field_length f) v l q i m → OfItem f s i m
  row_of d b e u (short h) = short_data (ShortData.fixed (plain f.code) b (has_plain f) (rw e at (code_is f typed)) h)
  row_of d b e u (short_L {k = k} h) = short_data (short_length f b k (length_code_lem k e) h)
  row_of d b e u (negative {k = k} h t) = bad_count (negative_length f b k (length_code_lem k e) h t)
  row_of {v = v} d b e u (over_F {k = k} h t) =
      let o = over_of f.mode (field_length f) (big (take (width k) v)) (rw u t) in
      bad_count (BadCount.over_F b (length_of f k v (length_code_lem k e) h) (omega arith) o.1)
  row_of {v = v} d b e u (short_body {k = k} h l) =
      short_data (ShortData.counted b (length_of f k v (length_code_lem k e) h) (sent_of f (big (take (width k) v)) d) l)
  row_of d b e u (no_zero c) = short_data (cut_off f b d (end_code e) c)
  row_of {v = v} d b e u (endless t) =
      let o = over_of f.mode (field_length f) (before_zero v) (rw u t) in
      no_end (none_zero b (end_code e) (omega arith) (omega (arith, before_zero_within v)) (λ i h. none_before v i (omega arith)))

  module _ (known : f.mode ≤ 1) where
    row : {s : List ℕ} {i m : ℕ} → Seen f s i m → OfItem f s i m
    row (missing h e) = rw e (short_data (indicator h))
    row (bad h) = bad_indicator h
    row (found b w) = row_of (spaced f known) b refl refl w

    judged : (s : List ℕ) → Judged (OfItem f s) (measure f s)
    judged s = judged_map (measure f s) (λ i m w. row w) (λ i m w. seen w) (judged_seen f s)

    -- An item that is measured has no reason of the table against it.
    pub item_no_reason : (s : List ℕ) (z : Bool) (p v r : ℕ) → measure f s ≡ item z p v r → (step m : ℕ) → OfItem f s step m → ⊥
    item_no_reason s z p v r e = rw e at (judged s)

    -- Bytes are refused with the number of their earliest reason.
    pub item_first_reason : (s : List ℕ) (n : ℕ) → measure f s ≡ refused n → Earliest (OfItem f s) n
    item_first_reason s n e = rw e at (judged s)
