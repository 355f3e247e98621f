-- Measuring accepts exactly the bytes that begin with an item of the standard's account, with its null mark and the lengths of its parts.
-- Assumes nothing.
use Rattle.std.specs.Prelude.{if◌then◌else◌}
use mathlib.Core.Path.{◌≡◌, refl, sym, ap, ◌∙◌}
use mathlib.Core.Logic.{◌≢◌}
use Prim.Native.Nat.{ℕ, suc, ◌+◌, ◌-◌, ◌*◌, ◌%◌, ◌≤◌, ◌<◌, min}
use native.Mathlib.Omega.{arith}
use mathlib.Core.Bool.{Bool, true, false}
use mathlib.Core.List.{List, [], ◌∷◌, ◌++◌}
use lib.Dec.{leb, ltb, eqb}
use lib.ListN.{length, take, drop, length-append, length-drop, take-append-drop}
use lib.Seq.{take_at, length-take-le}
use borrow.Author.Tests.{ltb-true, ltb-false, leb-false, eqb-true, eqb-false, lt-ltb, le-ltb, le-leb, lt-leb, eq-eqb, ne_eqb}
use Rattle.fdoca.specs.Basics.{big, in_base}
use Rattle.fdoca.specs.FieldType.{FieldType, fixed_bytes, variable_bytes, terminated_bytes, short_bytes, integer, reversed_integer, packed_decimal, hex_float, reversed_float, binary_float, LengthField, signed_two, unsigned_one, fixed, Size, bytes, digits, in_bytes, rule_of}
use Rattle.fdoca.specs.Item.{Field, field_length, Measured, refused, item, Space, unbounded, limited, reserved, space, width, is_negative, is_over, unused, indicated, before_zero, measure_fixed, measure_body, measure_counted, measure_terminated, measure_value, measure_nullable, measure_item, measure}
use Rattle.fdoca.specs.Account.{FixedLength, string, binary, binary_reversed, packed, float_hex, float_reversed, float, Fills, of_bytes, of_half_bytes, one_unused, Reserved, no_limit, value_only, all_sent, NonZero, none_left, one_more, Value, of_size, after_two, after_one, up_to_zero, Item, plain, null, value, Parts, Begins}
use Rattle.fdoca.proofs.Tests.{by_test, by_le, by_lt, by_eq}

-- what measuring says of an item's parts
abbrev pub sizes : Parts → Measured
sizes x = item x.is_null (length x.lead) (length x.value) (length x.spare)

-- the number of one byte, and of two
pub big_one : (a : ℕ) → big (a ∷ []) ≡ a
unfolding big in_base
big_one a = omega arith

pub big_two : (a b : ℕ) → big (a ∷ b ∷ []) ≡ a * 256 + b
unfolding big in_base
big_two a b = omega arith

-- An item of the account is measured.

pub fixed_layout : {T : FieldType} → FixedLength T → (rule_of T).layout ≡ fixed
unfolding rule_of
fixed_layout string = refl
fixed_layout binary = refl
fixed_layout binary_reversed = refl
fixed_layout packed = refl
fixed_layout float_hex = refl
fixed_layout float_reversed = refl
fixed_layout float = refl

-- the space that mode and F set aside, where they are known
pub space_none : (mode F : ℕ) → F ≡ 0 → space mode F ≡ unbounded
unfolding space
space_none mode F e = simp (eq-eqb F 0 e)

pub space_limit : (mode F : ℕ) → F ≢ 0 → mode ≢ 0 → space mode F ≡ limited F
unfolding space
space_limit mode F h k = simp (ne_eqb F 0 h, ne_eqb mode 0 k)

pub space_full : (mode F : ℕ) → F ≢ 0 → mode ≡ 0 → space mode F ≡ reserved F
unfolding space
space_full mode F h e = simp (ne_eqb F 0 h, eq-eqb mode 0 e)

-- L is over F above 0
pub over : (mode F L : ℕ) → F ≢ 0 → F < L → is_over (space mode F) L ≡ true
unfolding space
over mode F L h k = rw (ne_eqb F 0 h) (by_test (λ sp. is_over sp L ≡ true) (eqb mode 0) (λ t. lt-ltb F L k) (λ t. lt-ltb F L k))

pub over_of : (mode F L : ℕ) → is_over (space mode F) L ≡ true → (F ≢ 0) × (F < L)
unfolding space
over_of mode F L = go (eqb F 0) (eqb mode 0) refl
  where
    go : (a b : Bool) → eqb F 0 ≡ a → is_over (if a then unbounded else if b then reserved F else limited F) L ≡ true → (F ≢ 0) × (F < L)
    go true b t h = absurd (let z : ◌≡◌ {A = ℕ} 0 1 = cc in let w : ⊥ = omega arith in w)
    go false true t h = (eqb-false F 0 t, ltb-true F L h)
    go false false t h = (eqb-false F 0 t, ltb-true F L h)

-- what follows a value is the space that it leaves
left_over : {mode F n : ℕ} {r : List ℕ} → Reserved mode F n r → (is_over (space mode F) n ≡ false) × (unused (space mode F) n ≡ length r)
left_over {mode} {F} {n} (no_limit e) = rw (space_none mode F e) (refl, refl)
left_over {mode} {F} {n} (value_only h k l) = rw (space_limit mode F h k) (le-ltb F n l, refl)
left_over {mode} {F} {n} (all_sent h e l) = rw (space_full mode F h e) (le-ltb F n (omega arith), omega arith)

-- the bytes that fill a size are as many as it has
filled : {z : Size} {v : List ℕ} → Fills z v → length v ≡ in_bytes z
filled (of_bytes e) = e
filled (of_half_bytes e) = omega arith
filled (one_unused e) = omega arith

fill : (z : Size) (v : List ℕ) → length v ≡ in_bytes z → Fills z v
fill (bytes F) v e = of_bytes e
fill (digits p fraction) v e = go (eqb (p % 2) 0) refl
  where
    go : (b : Bool) → eqb (p % 2) 0 ≡ b → Fills (digits p fraction) v
    go true t = one_unused {p = p} {v = v} (omega (arith, eqb-true (p % 2) 0 t))
    go false t = of_half_bytes {p = p} {v = v} (omega (arith, eqb-false (p % 2) 0 t))

measured_fixed : (F : ℕ) (v rest : List ℕ) → length v ≡ F → measure_fixed F (v ++ rest) ≡ item false 0 (length v) 0
unfolding measure_fixed
measured_fixed F v rest e =
    let h : F ≤ length (v ++ rest) = omega (arith, length-append v rest) in
    rw (le-leb F (length (v ++ rest)) h) (cc)

measured_counted : (k : LengthField) (c : List ℕ) (mode F : ℕ) (v r rest : List ℕ) → Reserved mode F (length v) r → length c ≡ width k
    → big c ≡ length v → is_negative k (length v) ≡ false
    → measure_counted k (space mode F) (c ++ (v ++ (r ++ rest))) ≡ item false (length c) (length v) (length r)
unfolding measure_counted measure_body
measured_counted k c mode F v r rest res e₁ e₂ g =
    let s : List ℕ = c ++ (v ++ (r ++ rest)) in
    let n : length s ≡ length c + (length v + (length r + length rest)) = simp length-append in
    let o = left_over res in
    let t₁ : ltb (length s) (width k) ≡ false = le-ltb (length s) (width k) (omega arith) in
    let t₂ : big (take (width k) s) ≡ length v = ap big (take_at c (v ++ (r ++ rest)) (width k) e₁) ∙ e₂ in
    let t₃ : leb (length v + length r) (length s - width k) ≡ true = le-leb (length v + length r) (length s - width k) (omega arith) in
    rw (t₁, t₂, g, o.0, o.1, t₃) (cc)

nonzero_first : (v x : List ℕ) → NonZero v → before_zero (v ++ (0 ∷ x)) ≡ length v
unfolding before_zero
nonzero_first [] x none_left = refl
nonzero_first (b ∷ v) x (one_more h nz) = rw (ne_eqb b 0 h) (ap suc (nonzero_first v x nz))

measured_terminated : (mode F : ℕ) (v r rest : List ℕ) → Reserved mode F (length v) r → NonZero v
    → measure_terminated (space mode F) (v ++ (0 ∷ (r ++ rest))) ≡ item false 0 (length v) (suc (length r))
unfolding measure_terminated
measured_terminated mode F v r rest (no_limit e) nz =
    let n : length (v ++ (0 ∷ rest)) ≡ length v + suc (length rest) = length-append v (0 ∷ rest) in
    rw (space_none mode F e, nonzero_first v rest nz, lt-ltb (length v) (length (v ++ (0 ∷ rest))) (omega arith))
measured_terminated mode F v r rest (value_only h k l) nz =
    let n : length (v ++ (0 ∷ rest)) ≡ length v + suc (length rest) = length-append v (0 ∷ rest) in
    rw (space_limit mode F h k, nonzero_first v rest nz, lt-ltb (length v) (min (F + 1) (length (v ++ (0 ∷ rest)))) (omega arith))
measured_terminated mode F v r rest (all_sent h e l) nz =
    let n : length (v ++ (0 ∷ (r ++ rest))) ≡ length v + suc (length r + length rest) = simp length-append in
    let q : F + 1 - length v ≡ suc (length r) = omega arith in
    rw (
      space_full mode F h e,
      le-ltb (length (v ++ (0 ∷ (r ++ rest)))) (F + 1) (omega arith),
      nonzero_first v (r ++ rest) nz,
      le-leb (length v) F (omega arith),
      q,
    )

measured_value : (mode : ℕ) (z : Size) (T : FieldType) (p v r rest : List ℕ) → Value mode z T p v r
    → measure_value (rule_of T).layout mode (in_bytes z) (p ++ (v ++ (r ++ rest))) ≡ item false (length p) (length v) (length r)
unfolding measure_value rule_of
measured_value mode z T p v r rest (of_size t e) = rw (fixed_layout t) (measured_fixed (in_bytes z) v rest (filled e))
measured_value mode z T p v r rest (after_two {a = a} {b = b} e h res) =
    measured_counted signed_two (a ∷ b ∷ []) mode (in_bytes z) v r rest res refl (big_two a b ∙ e) (lt-leb 0x8000 (length v) h)
measured_value mode z T p v r rest (after_one {a = a} e res) =
    measured_counted unsigned_one (a ∷ []) mode (in_bytes z) v r rest res refl (big_one a ∙ e) refl
measured_value mode z T p v r rest (up_to_zero {r = r'} nz res) = measured_terminated mode (in_bytes z) v r' rest res nz

measured_item : (f : Field) (z : Bool) (p v r rest : List ℕ) → Item f z p v r
    → measure f (p ++ (v ++ (r ++ rest))) ≡ item z (length p) (length v) (length r)
unfolding measure measure_item measure_nullable
measured_item f z p v r rest (plain h w) = rw (lt-leb 128 f.code h) (measured_value f.mode f.size f.type p v r rest w)
measured_item f z p v r rest (null {b = b} h k) =
    rw (le-leb 128 f.code h)
    (by_eq (λ m. m ≡ item true 1 0 0) b _ (λ e. absurd (let z : ⊥ = omega arith in z))
    (λ e. by_le (λ m. m ≡ item true 1 0 0) _ b (λ l. refl) (λ l. absurd (let z : ⊥ = omega arith in z))))
measured_item f z p v r rest (value {p = p'} h w) =
    let e : 1 + length p' ≡ suc (length p') = omega arith in
    rw (le-leb 128 f.code h)
    (ap indicated (measured_value f.mode f.size f.type p' v r rest w) ∙ ap (λ n. item false n (length v) (length r)) e)

-- What is measured is an item of the account.

-- bytes that begin with parts of the kind G, of the given lengths
record Found (G : List ℕ → List ℕ → List ℕ → Type 0) (s : List ℕ) (p v r : ℕ) : Type 0 where
  lead : List ℕ
  value : List ℕ
  spare : List ℕ
  rest : List ℕ
  split : s ≡ lead ++ (value ++ (spare ++ rest))
  kind : G lead value spare
  lead_length : length lead ≡ p
  value_length : length value ≡ v
  spare_length : length spare ≡ r

abbrev Parsed : (Bool → List ℕ → List ℕ → List ℕ → Type 0) → List ℕ → Measured → Type 0
Parsed G s (refused k) = Unit {0}
Parsed G s (item z p v r) = Found (G z) s p v r

-- a value has no null mark
data Plain (mode : ℕ) (z : Size) (T : FieldType) : Bool → List ℕ → List ℕ → List ℕ → Type 0 where
  no_null : {p v r : List ℕ} → Value mode z T p v r → Plain mode z T false p v r

parsed_fixed : (mode : ℕ) (z : Size) (T : FieldType) (s : List ℕ) → FixedLength T → Parsed (Plain mode z T) s (measure_fixed (in_bytes z) s)
unfolding measure_fixed
parsed_fixed mode z T s t =
    let F : ℕ = in_bytes z in
    by_le (Parsed (Plain mode z T) s) F (length s)
    (λ h. let e : length (take F s) ≡ F = length-take-le F s h in
    record {
      lead = [];
      value = take F s;
      spare = [];
      rest = drop F s;
      split = sym (take-append-drop F s);
      kind = no_null (of_size t (fill z (take F s) e));
      lead_length = refl;
      value_length = e;
      spare_length = refl;
    })
    (λ h. tt)

-- the bytes behind a value, as many as its space leaves
reserved_of : (mode F n : ℕ) (r : List ℕ) → is_over (space mode F) n ≡ false → length r ≡ unused (space mode F) n → Reserved mode F n r
unfolding space
reserved_of mode F n r = go (eqb F 0) (eqb mode 0) refl refl
  where
    nil : (x : List ℕ) → length x ≡ 0 → Reserved mode F n [] → Reserved mode F n x
    nil [] e h = h
    nil (b ∷ x) e h = absurd (let z : ⊥ = omega arith in z)

    go : (a b : Bool) → eqb F 0 ≡ a → eqb mode 0 ≡ b → is_over (if a then unbounded else if b then reserved F else limited F) n ≡ false
        → length r ≡ unused (if a then unbounded else if b then reserved F else limited F) n → Reserved mode F n r
    go true b t u h e = nil r e (no_limit (eqb-true F 0 t))
    go false true t u h e = let l : n + length r ≡ F = omega (arith, ltb-false F n h) in all_sent (eqb-false F 0 t) (eqb-true mode 0 u) l
    go false false t u h e = nil r e (value_only (eqb-false F 0 t) (eqb-false mode 0 u) (ltb-false F n h))

module _ (k : LengthField) (mode : ℕ) (z : Size) (s : List ℕ) where
  abbrev F : ℕ
  F = in_bytes z

  sp : Space
  sp = space mode F

  L : ℕ
  L = big (take (width k) s)

  -- the parts of an item with a length field
  counted_parts : (T : FieldType) → width k ≤ length s → is_negative k L ≡ false → is_over sp L ≡ false → L + unused sp L ≤ length s - width k
      → ((c v r : List ℕ) → length c ≡ width k → big c ≡ length v → is_negative k (length v) ≡ false → Reserved mode F (length v) r → Value mode z T c v r)
      → Found (Plain mode z T false) s (width k) L (unused sp L)
  unfolding sp L
  counted_parts T h₁ h₂ h₃ h₄ make =
      let w : ℕ = width k in
      let e₁ : length (take w s) ≡ w = length-take-le w s h₁ in
      let d₁ : length (drop w s) ≡ length s - w = length-drop w s in
      let e₂ : length (take L (drop w s)) ≡ L = length-take-le L (drop w s) (omega arith) in
      let d₂ : length (drop L (drop w s)) ≡ length (drop w s) - L = length-drop L (drop w s) in
      let e₃ : length (take (unused sp L) (drop L (drop w s))) ≡ unused sp L = length-take-le (unused sp L) (drop L (drop w s)) (omega arith) in
      let g : is_negative k (length (take L (drop w s))) ≡ false = rw e₂ h₂ in
      let q : Reserved mode F (length (take L (drop w s))) (take (unused sp L) (drop L (drop w s))) = rw e₂ (reserved_of mode F L (take (unused sp L) (drop L (drop w s))) h₃ e₃) in
      record {
        lead = take w s;
        value = take L (drop w s);
        spare = take (unused sp L) (drop L (drop w s));
        rest = drop (unused sp L) (drop L (drop w s));
        split = simp take-append-drop;
        kind = no_null (make (take w s) (take L (drop w s)) (take (unused sp L) (drop L (drop w s))) e₁ (sym e₂) g q);
        lead_length = e₁;
        value_length = e₂;
        spare_length = e₃;
      }

  parsed_counted : (T : FieldType)
      → ((c v r : List ℕ) → length c ≡ width k → big c ≡ length v → is_negative k (length v) ≡ false → Reserved mode F (length v) r → Value mode z T c v r)
      → Parsed (Plain mode z T) s (measure_counted k (space mode F) s)
  unfolding measure_counted measure_body sp L
  parsed_counted T make =
      by_lt P (length s) (width k) (λ h. tt)
      (λ h₁. by_test P (is_negative k L) (λ h. tt)
      (λ h₂. by_test P (is_over sp L) (λ h. tt)
      (λ h₃. by_le P (L + unused sp L) (length s - width k) (λ h₄. counted_parts T h₁ h₂ h₃ h₄ make) (λ h. tt))))
    where
      P : Measured → Type 0
      P = Parsed (Plain mode z T) s

-- the length fields of X'02' and X'07'
two_bytes_lem : (mode : ℕ) (z : Size) (c v r : List ℕ) → length c ≡ 2 → big c ≡ length v → is_negative signed_two (length v) ≡ false
    → Reserved mode (in_bytes z) (length v) r → Value mode z variable_bytes c v r
two_bytes_lem mode y (a ∷ b ∷ []) v r n e h q = after_two (sym (big_two a b) ∙ e) (leb-false 0x8000 (length v) h) q
two_bytes_lem mode y [] v r n e h q = absurd (let w : ⊥ = omega arith in w)
two_bytes_lem mode y (a ∷ []) v r n e h q = absurd (let w : ⊥ = omega arith in w)
two_bytes_lem mode y (a ∷ b ∷ c ∷ d) v r n e h q = absurd (let w : ⊥ = omega arith in w)

one_byte : (mode : ℕ) (z : Size) (c v r : List ℕ) → length c ≡ 1 → big c ≡ length v → is_negative unsigned_one (length v) ≡ false
    → Reserved mode (in_bytes z) (length v) r → Value mode z short_bytes c v r
one_byte mode y (a ∷ []) v r n e h q = after_one (sym (big_one a) ∙ e) q
one_byte mode y [] v r n e h q = absurd (let w : ⊥ = omega arith in w)
one_byte mode y (a ∷ b ∷ c) v r n e h q = absurd (let w : ⊥ = omega arith in w)

-- before the first zero byte no byte is zero, and there it stands
pub zero_at : (s : List ℕ)
    → NonZero (take (before_zero s) s) × (before_zero s < length s → drop (before_zero s) s ≡ 0 ∷ drop (suc (before_zero s)) s)
unfolding before_zero
zero_at [] = (none_left, λ h. absurd (let z : ⊥ = omega arith in z))
zero_at (b ∷ s) =
    let ih = zero_at s in
    by_test (λ k. NonZero (take k (b ∷ s)) × (k < suc (length s) → drop k (b ∷ s) ≡ 0 ∷ drop (suc k) (b ∷ s))) (eqb b 0)
    (λ e. (none_left, λ h. ap (λ x. x ∷ s) (eqb-true b 0 e)))
    (λ e. (one_more (eqb-false b 0 e) ih.0, λ h. ih.1 (omega arith)))

module _ (mode : ℕ) (y : Size) (s : List ℕ) where
  abbrev G' : ℕ
  G' = in_bytes y

  -- the parts of an item with r bytes behind its zero byte
  terminated_parts : (r : ℕ) → before_zero s + suc r ≤ length s → ((x : List ℕ) → length x ≡ r → Reserved mode G' (before_zero s) x)
      → Found (Plain mode y terminated_bytes false) s 0 (before_zero s) (suc r)
  terminated_parts r h fill =
      let k : ℕ = before_zero s in
      let e₁ : length (take k s) ≡ k = length-take-le k s (omega arith) in
      let d : length (drop (suc k) s) ≡ length s - suc k = length-drop (suc k) s in
      let e₂ : length (take r (drop (suc k) s)) ≡ r = length-take-le r (drop (suc k) s) (omega arith) in
      let z : drop k s ≡ 0 ∷ drop (suc k) s = (zero_at s).1 (omega arith) in
      let q : Reserved mode G' (length (take k s)) (take r (drop (suc k) s)) = rw e₁ (fill _ e₂) in
      let l : s ≡ take k s ++ (0 ∷ (take r (drop (suc k) s) ++ drop r (drop (suc k) s))) = rw (take-append-drop r (drop (suc k) s), ← z) (sym (take-append-drop k s)) in
      record {
        lead = [];
        value = take k s;
        spare = 0 ∷ take r (drop (suc k) s);
        rest = drop r (drop (suc k) s);
        split = l;
        kind = no_null (up_to_zero (zero_at s).0 q);
        lead_length = refl;
        value_length = e₁;
        spare_length = ap suc e₂;
      }

  -- nothing but the zero byte, and the space that is left
  end_only : (sp : Space) → space mode G' ≡ sp → is_over sp (before_zero s) ≡ false → unused sp (before_zero s) ≡ 0 → before_zero s < length s
      → Found (Plain mode y terminated_bytes false) s 0 (before_zero s) 1
  end_only sp e o u h = terminated_parts 0 (omega arith) (λ x n. reserved_of mode G' (before_zero s) x (rw e o) (rw (e, u) n))

  parsed_terminated : (sp : Space) → space mode G' ≡ sp → Parsed (Plain mode y terminated_bytes) s (measure_terminated sp s)
  unfolding measure_terminated
  parsed_terminated unbounded e =
      by_lt (Parsed (Plain mode y terminated_bytes) s) (before_zero s) (length s) (λ h. end_only unbounded e refl refl h) (λ h. tt)
  parsed_terminated (limited G) e =
      by_lt (Parsed (Plain mode y terminated_bytes) s) (before_zero s) (min (G + 1) (length s))
      (λ h. end_only (limited G) e (le-ltb G (before_zero s) (omega arith)) refl (omega arith))
      (λ h. by_lt (Parsed (Plain mode y terminated_bytes) s) (length s) (G + 1) (λ k. tt) (λ k. tt))
  parsed_terminated (reserved G) e =
      by_lt (Parsed (Plain mode y terminated_bytes) s) (length s) (G + 1) (λ h. tt)
      (λ h. by_le (Parsed (Plain mode y terminated_bytes) s) (before_zero s) G
      (λ k. let q : suc (G - before_zero s) ≡ G + 1 - before_zero s = omega arith in
      rw q at (terminated_parts (G - before_zero s) (omega arith) (λ x n. reserved_of mode G' (before_zero s) x (rw e (le-ltb G (before_zero s) k)) (rw e n))))
      (λ k. tt))

parsed_value : (mode : ℕ) (z : Size) (T : FieldType) (s : List ℕ) → Parsed (Plain mode z T) s (measure_value (rule_of T).layout mode (in_bytes z) s)
unfolding measure_value rule_of
parsed_value mode z fixed_bytes s = parsed_fixed mode z fixed_bytes s string
parsed_value mode z variable_bytes s = parsed_counted signed_two mode z s variable_bytes (two_bytes_lem mode z)
parsed_value mode z terminated_bytes s = parsed_terminated mode z s (space mode (in_bytes z)) refl
parsed_value mode z short_bytes s = parsed_counted unsigned_one mode z s short_bytes (one_byte mode z)
parsed_value mode z integer s = parsed_fixed mode z integer s binary
parsed_value mode z reversed_integer s = parsed_fixed mode z reversed_integer s binary_reversed
parsed_value mode z packed_decimal s = parsed_fixed mode z packed_decimal s packed
parsed_value mode z hex_float s = parsed_fixed mode z hex_float s float_hex
parsed_value mode z reversed_float s = parsed_fixed mode z reversed_float s float_reversed
parsed_value mode z binary_float s = parsed_fixed mode z binary_float s float

module _ (f : Field) where
  abbrev OfField : Bool → List ℕ → List ℕ → List ℕ → Type 0
  OfField = Plain f.mode f.size f.type

  parsed_plain : (s : List ℕ) (m : Measured) → f.code < 128 → Parsed OfField s m → Parsed (Item f) s m
  parsed_plain s (refused k) h x = tt
  parsed_plain s (item z p v r) h x =
      record {
        lead = x.lead;
        value = x.value;
        spare = x.spare;
        rest = x.rest;
        split = x.split;
        kind = go x.kind;
        lead_length = x.lead_length;
        value_length = x.value_length;
        spare_length = x.spare_length;
      }
    where
      go : {z : Bool} {p v r : List ℕ} → OfField z p v r → Item f z p v r
      go (no_null y) = plain h y

  parsed_indicated : (s : List ℕ) (m : Measured) → 128 ≤ f.code → Parsed OfField s m → Parsed (Item f) (0 ∷ s) (indicated m)
  parsed_indicated s (refused k) h x = tt
  parsed_indicated s (item z p v r) h x =
      record {
        lead = 0 ∷ x.lead;
        value = x.value;
        spare = x.spare;
        rest = x.rest;
        split = ap (λ y. 0 ∷ y) x.split;
        kind = go x.kind;
        lead_length = omega (arith, x.lead_length);
        value_length = x.value_length;
        spare_length = x.spare_length;
      }
    where
      go : {z : Bool} {p v r : List ℕ} → OfField z p v r → Item f z (0 ∷ p) v r
      go (no_null y) = value h y

  parsed_nullable : (s : List ℕ) → 128 ≤ f.code → Parsed (Item f) s (measure_nullable (rule_of f.type).layout f.mode (field_length f) s)
  unfolding measure_nullable
  parsed_nullable [] h = tt
  parsed_nullable (b ∷ s) h =
      by_eq (Parsed (Item f) (b ∷ s)) b _
      (λ e. rw e (parsed_indicated s (measure_value (rule_of f.type).layout f.mode (field_length f) s) h (parsed_value f.mode f.size f.type s)))
      (λ e. by_le (Parsed (Item f) (b ∷ s)) _ b
      (λ k. record {
        lead = b ∷ [];
        value = [];
        spare = [];
        rest = s;
        split = refl;
        kind = null h k;
        lead_length = refl;
        value_length = refl;
        spare_length = refl;
      })
      (λ k. tt))

  parsed : (s : List ℕ) → Parsed (Item f) s (measure f s)
  unfolding measure measure_item
  parsed s =
      by_le (Parsed (Item f) s) 128 f.code (λ h. parsed_nullable s h)
      (λ h. parsed_plain s (measure_value (rule_of f.type).layout f.mode (field_length f) s) h (parsed_value f.mode f.size f.type s))

  -- What is measured is an item of the account, with the same null mark and the same lengths.
  pub measure_sound : (s : List ℕ) (z : Bool) (p v r : ℕ) → measure f s ≡ item z p v r → (x : Parts) × Begins f s x × (sizes x ≡ item z p v r)
  measure_sound s z p v r e =
      let x : Found (Item f z) s p v r = rw e at (parsed s) in
      let y : Parts = record { is_null = z; lead = x.lead; value = x.value; spare = x.spare } in
      let b : Begins f s y = record { rest = x.rest; split = x.split; account = x.kind } in
      (y, b, cc)

  -- An item of the account is measured as such.
  pub measure_complete : (s : List ℕ) (x : Parts) → Begins f s x → measure f s ≡ sizes x
  measure_complete s x b =
      ap (measure f) b.split ∙ measured_item f x.is_null x.lead x.value x.spare b.rest b.account
