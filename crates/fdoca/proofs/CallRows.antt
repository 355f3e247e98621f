-- The calls refuse for the first reason in document 01's order, and accept where there is none: list, state with lending, and whole number.
-- Assumes nothing.
use Rattle.std.specs.Prelude.{if◌then◌else◌}
use mathlib.Core.Path.{◌≡◌, refl, sym, ap, ◌∙◌}
use mathlib.Core.Logic.{◌⊎◌, inl, inr}
use Prim.Native.Nat.{ℕ, suc, ◌+◌, ◌*◌, ◌≤◌, ◌<◌}
use native.Mathlib.Omega.{arith}
use mathlib.Core.Bool.{true, false, ◌&&◌, not, true≢false}
use mathlib.Core.List.{List, [], ◌∷◌, reverse}
use mathlib.Core.Option.{Option, none, some}
use lib.IntN.{ℤ, pos}
use lib.ListN.{length, get_elem?}
use borrow.Author.Tests.{ltb-true, ltb-false}
use Rattle.fdoca.specs.Basics.{is_some, Result, refuse, ok, ◌>>=◌, ◌>>◌, reject, the}
use Rattle.fdoca.specs.FieldType.{FieldType, fixed_bytes, variable_bytes, terminated_bytes, short_bytes, integer, reversed_integer, packed_decimal, hex_float, reversed_float, binary_float, type_of}
use Rattle.fdoca.specs.Item.{Field}
use Rattle.fdoca.specs.Walk.{Note, walk_by}
use Rattle.fdoca.specs.Check.{max_descriptor, check}
use Rattle.fdoca.specs.Unfolding.{unfolded, repeated}
use Rattle.fdoca.specs.Calls.{max_data, oversize, small, list, item_at, value_of, whole_of, signed, whole_number}
use Rattle.fdoca.specs.Reasons as R
use Rattle.fdoca.specs.Reasons.{here, HasType, StartsAt, OfItems, item, surplus, Uses, Unfolds, OfDescriptor, nothing_described, OfData, items, OfBlock, descriptor, data_of, OfList, small_list, small_for_rows, OfState, no_such_item, not_in_rows, OfWholeNumber, state, wrong_kind, Earlier, First}
use Rattle.fdoca.proofs.Results.{ok_bind, ok_reject}
use Rattle.fdoca.proofs.Tests.{either_over, neither_over}
use Rattle.fdoca.proofs.Table.{not_there, is_there}
use Rattle.fdoca.proofs.Count.{count_is_length}
use Rattle.fdoca.proofs.Fields.{item_good}
use Rattle.fdoca.proofs.ItemRows.{has_type, type_is}
use Rattle.fdoca.proofs.FirstReasons.{Told, refused, accepted, Either, Once, once, Precedes, told_as, told_then, told_tested, reject_told, the_told}
use Rattle.fdoca.proofs.CheckRows.{check_told}
use Rattle.fdoca.proofs.BlockRows.{starts_unique, item_starts}
use Rattle.fdoca.proofs.Data.{item_count, data_told, WalkedBy, walked_by}

-- Over a limit: turn 1.
abbrev pub Sizes : (d s : List ℕ) → List ℕ → ℕ → ℕ → Type 0
Sizes d s = Once ((4096 < length d) ⊎ (32768 < length s)) (1 ∷ []) 1 0

sizes_told : (d s : List ℕ) → Told (Sizes d s) (reject (oversize d s) 1 0)
sizes_told d s =
    reject_told (oversize d s) 1 0 (either_over max_descriptor (length d) max_data (length s)) (neither_over max_descriptor (length d) max_data (length s))

-- a turn by its first number
pub record From (a b : ℕ) (t : List ℕ) : Type 0 where
  pub head : ℕ
  pub tail : List ℕ
  pub is : t ≡ head ∷ tail
  pub low : a ≤ head
  pub high : head ≤ b

pub from : (a b h : ℕ) (l : List ℕ) → a ≤ h → h ≤ b → From a b (h ∷ l)
from a b h l x y = record { head = h; tail = l; is = refl; low = x; high = y }

pub wider : {a b : ℕ} {t : List ℕ} (c e : ℕ) → c ≤ a → b ≤ e → From a b t → From c e t
wider c e l h x = record { head = x.head; tail = x.tail; is = x.is; low = omega (arith, x.low); high = omega (arith, x.high) }

pub before_from : {a b c e : ℕ} {t u : List ℕ} → From a b t → From c e u → b < c → Earlier t u
before_from x y h = let l : x.head < y.head = omega (arith, x.high, y.low) in rw (x.is, y.is) (R.Earlier.here l)

pub descriptor_from : {d t : List ℕ} {m p : ℕ} → OfDescriptor d t m p → From 1 3 t
descriptor_from (OfDescriptor.oversize h) = from 1 3 1 [] (omega arith) (omega arith)
descriptor_from (R.triplet {j = j} {g = g} {step = v} h r) = from 1 3 2 (j ∷ g ∷ v ∷ []) (omega arith) (omega arith)
descriptor_from (R.endless {j = j} {k = k} h r) = from 1 3 2 (j ∷ suc k ∷ 10 ∷ []) (omega arith) (omega arith)
descriptor_from (nothing_described h) = from 1 3 3 [] (omega arith) (omega arith)

pub items_from : {fs : List Field} {s t : List ℕ} {m p : ℕ} → OfItems fs s t m p → From 5 6 t
items_from (item {k = k} {step = i} x r) = from 5 6 5 (k ∷ i ∷ []) (omega arith) (omega arith)
items_from (surplus r b e l) = from 5 6 6 [] (omega arith) (omega arith)

pub data_from : {d s t : List ℕ} {m p : ℕ} → OfData d s t m p → From 5 6 t
data_from (items e r) = items_from r
data_from (R.rows e (R.OfRows.item {k = k} {step = i} j x c l r)) = from 5 6 5 (k ∷ i ∷ []) (omega arith) (omega arith)
data_from (R.rows e (R.too_many j x c)) = from 5 6 5 (4096 ∷ 0 ∷ []) (omega arith) (omega arith)

pub block_from : {d s t : List ℕ} {m p : ℕ} → OfBlock d s t m p → From 1 6 t
block_from (descriptor r) = wider 1 6 (omega arith) (omega arith) (descriptor_from r)
block_from (OfBlock.oversize h) = from 1 6 1 [] (omega arith) (omega arith)
block_from (data_of r) = wider 1 6 (omega arith) (omega arith) (data_from r)

-- which reasons come first
pub precedes_either : {P Q S : List ℕ → ℕ → ℕ → Type 0} → Precedes P Q → Precedes P S → Precedes P (Either Q S)
precedes_either f g t u m p n q x (inl y) = f t u m p n q x y
precedes_either f g t u m p n q x (inr y) = g t u m p n q x y

pub by_turns : {P Q : List ℕ → ℕ → ℕ → Type 0} (a b c e : ℕ) → b < c → ((t : List ℕ) (m p : ℕ) → P t m p → From a b t) → ((t : List ℕ) (m p : ℕ) → Q t m p → From c e t)
    → Precedes P Q
by_turns a b c e h f g t u m p n q x y = inl (before_from (f t m p x) (g u n q y) h)

pub once_from : {P : Type 0} {h m p : ℕ} {l : List ℕ} (t : List ℕ) (n q : ℕ) → Once P (h ∷ l) m p t n q → From h h t
once_from {P} {h} {m} {p} {l} t n q (once x) = from h h h l (omega arith) (omega arith)

sizes_precede : (d s : List ℕ) → Precedes (Sizes d s) (OfDescriptor d)
sizes_precede d s t u m p n q (once x) (OfDescriptor.oversize y) = inr (refl, refl, refl)
sizes_precede d s t u m p n q (once x) (R.triplet y z) = inl (R.Earlier.here {a = 1} {b = 2} (omega arith))
sizes_precede d s t u m p n q (once x) (R.endless y z) = inl (R.Earlier.here {a = 1} {b = 2} (omega arith))
sizes_precede d s t u m p n q (once x) (nothing_described y) = inl (R.Earlier.here {a = 1} {b = 3} (omega arith))

-- one result behind another
pub told_after : {A B : Type 0} {P Q : List ℕ → ℕ → ℕ → Type 0} (x : Result A) (y : Result B) → Precedes P Q → Told P x → Told Q y → Told (Either P Q) (x >> y)
told_after {A} {B} x y h a b = rw (same x y) (told_then x (λ i. y) h a (λ i e. b))
  where
    same : (x : Result A) (y : Result B) → (x >> y) ≡ (x >>= (λ i. y))
    same (refuse m p) y = refl
    same (ok a) y = refl

pub told_made : {A B : Type 0} {P : List ℕ → ℕ → ℕ → Type 0} (x : Result A) (f : A → B) → Told P x → Told P (x >>= (λ a. ok (f a)))
told_made x f (refused h) = refused h
told_made x f (accepted h) = accepted h

pub told_before : {A B : Type 0} {P : List ℕ → ℕ → ℕ → Type 0} (x : Result A) (b : B) → Told P x → Told P (x >> ok b)
told_before x b (refused h) = refused h
told_before x b (accepted h) = accepted h

-- The descriptor, then what comes behind it of an accepted one.
pub described_then : {A : Type 0} {Q : List ℕ → ℕ → ℕ → Type 0} (d s : List ℕ) (f : ℕ → Result A) → ((t : List ℕ) (m p : ℕ) → Q t m p → From 4 8 t)
    → ((n : ℕ) → check d ≡ ok n → Told Q (f n)) → Told (Either (Sizes d s) (Either (OfDescriptor d) Q)) (reject (oversize d s) 1 0 >> (check d >>= f))
described_then d s f late next =
    told_after (reject (oversize d s) 1 0) (check d >>= f) (precedes_either (sizes_precede d s) (by_turns 1 1 4 8 (omega arith) once_from late))
    (sizes_told d s) (told_then (check d) f (by_turns 1 3 4 8 (omega arith) (λ t m p x. descriptor_from x) late) (check_told d) next)

pub late_data : {d s : List ℕ} (t : List ℕ) (m p : ℕ) → OfData d s t m p → From 4 8 t
late_data t m p x = wider 4 8 (omega arith) (omega arith) (data_from x)

late_either : {P Q : List ℕ → ℕ → ℕ → Type 0} → ((t : List ℕ) (m p : ℕ) → P t m p → From 4 8 t) → ((t : List ℕ) (m p : ℕ) → Q t m p → From 4 8 t)
    → (t : List ℕ) (m p : ℕ) → Either P Q t m p → From 4 8 t
late_either f g t m p (inl x) = f t m p x
late_either f g t m p (inr x) = g t m p x

-- THE LIST CALL: 12 before the items, or with rows to the end after them
abbrev Small : (d old : List ℕ) → List ℕ → ℕ → ℕ → Type 0
Small d old = Once ((repeated d ≡ none) × (length old < 2 + 2 * length (unfolded d))) (4 ∷ []) 12 0

record SmallFor (d s old : List ℕ) : Type 0 where
  layout : List Field
  count : ℕ
  repeats : repeated d ≡ some layout
  uses : Uses (unfolded d) layout s count
  small_is : length old < 2 + 2 * count

abbrev SmallRows : (d s old : List ℕ) → List ℕ → ℕ → ℕ → Type 0
SmallRows d s old = Once (SmallFor d s old) (7 ∷ []) 12 0

module _ (d s old : List ℕ) where
  abbrev ForList : List ℕ → ℕ → ℕ → Type 0
  ForList = Either (Sizes d s) (Either (OfDescriptor d) (Either (Small d old) (Either (OfData d s) (SmallRows d s old))))

  to_list : (t : List ℕ) (m p : ℕ) → ForList t m p → OfList d s (length old) t m p
  to_list t m p (inl (once (inl h))) = OfList.block (descriptor (OfDescriptor.oversize h))
  to_list t m p (inl (once (inr h))) = OfList.block (OfBlock.oversize h)
  to_list t m p (inr (inl r)) = OfList.block (descriptor r)
  to_list t m p (inr (inr (inl (once h)))) = small_list h.0 h.1
  to_list t m p (inr (inr (inr (inl r)))) = OfList.block (data_of r)
  to_list t m p (inr (inr (inr (inr (once h))))) = small_for_rows h.repeats h.uses h.small_is

  of_list : (t : List ℕ) (m p : ℕ) → OfList d s (length old) t m p → ForList t m p
  of_list t m p (OfList.block (descriptor r)) = inr (inl r)
  of_list t m p (OfList.block (OfBlock.oversize h)) = inl (once (inr h))
  of_list t m p (OfList.block (data_of r)) = inr (inr (inr (inl r)))
  of_list t m p (small_list e h) = inr (inr (inl (once (e, h))))
  of_list t m p (small_for_rows {rows = layout} {n = n} e u h) = inr (inr (inr (inr (once (record { layout = layout; count = n; repeats = e; uses = u; small_is = h })))))

  module _ (n : ℕ) (e : check d ≡ ok n) where
    counted : length (unfolded d) ≡ n
    counted = count_is_length d n e

    small_yes : (o : Option (List Field)) → repeated d ≡ o → (not (is_some o) && small (length old) n) ≡ true → (repeated d ≡ none) × (length old < 2 + 2 * length (unfolded d))
    small_yes none r h = (r, omega (arith, ltb-true (length old) (2 + 2 * n) h, counted))
    small_yes (some layout) r h = absurd (true≢false (sym h))

    small_no : (not (is_some (repeated d)) && small (length old) n) ≡ false → (repeated d ≡ none) × (length old < 2 + 2 * length (unfolded d)) → ⊥
    small_no h (r, l) = let z : ⊥ = omega (arith, ltb-false (length old) (2 + 2 * n) (rw r at h), counted) in z

    -- behind the items
    rows_small : (ns : List Note) → walk_by (unfolded d) (repeated d) s ≡ ok ns → (not (is_some (repeated d)) && small (length old) n) ≡ false
        → Told (SmallRows d s old) (reject (small (length old) (length ns)) 12 0)
    rows_small ns w h =
        let x = walked_by d n e s ns w in
        reject_told (small (length old) (length ns)) 12 0 (λ l. yes x (repeated d) refl (ltb-true (length old) (2 + 2 * length ns) l))
        (λ l y. (let z : ⊥ = omega (arith, ltb-false (length old) (2 + 2 * length ns) l, x.used y.layout y.count y.repeats y.uses, y.small_is) in z))
      where
        yes : WalkedBy d n e s ns → (o : Option (List Field)) → repeated d ≡ o → length old < 2 + 2 * length ns → SmallFor d s old
        yes x none r l =
            absurd (let z : ⊥ = omega (arith, ltb-false (length old) (2 + 2 * n) (rw r at h), item_count x.fields s ns x.walks, ap length (x.plain r), counted) in z)
        yes x (some layout) r l = record { layout = layout; count = length ns; repeats = r; uses = x.uses layout r; small_is = l }

  pub list_told : Told (OfList d s (length old)) (list d s old)
  unfolding list
  list_told =
      told_as to_list of_list
      (described_then d s _
      (late_either (λ t m p x. wider 4 8 (omega arith) (omega arith) (once_from t m p x)) (late_either late_data (λ t m p x. wider 4 8 (omega arith) (omega arith) (once_from t m p x))))
      (λ n e. told_tested _ 12 0
      (precedes_either (by_turns 4 4 5 6 (omega arith) once_from (λ t m p x. data_from x)) (by_turns 4 4 7 7 (omega arith) once_from once_from))
      (small_yes n e (repeated d) refl) (small_no n e)
      (λ h. told_then _ _
      (by_turns 5 6 7 7 (omega arith) (λ t m p x. data_from x) once_from) (data_told d n e s)
      (λ ns w. told_before _ _ (rows_small n e ns w h)))))

-- THE STATE CALL, and lending
record None17 (d s : List ℕ) (k : ℕ) : Type 0 where
  layout : List Field
  count : ℕ
  repeats : repeated d ≡ some layout
  uses : Uses (unfolded d) layout s count
  past : count ≤ k

abbrev NoItem : (d s : List ℕ) (k : ℕ) → List ℕ → ℕ → ℕ → Type 0
NoItem d s k = Once (((repeated d ≡ none) × (length (unfolded d) ≤ k)) ⊎ None17 d s k) (7 ∷ []) 17 0

module _ (d s : List ℕ) (k : ℕ) where
  abbrev ForState : List ℕ → ℕ → ℕ → Type 0
  ForState = Either (Sizes d s) (Either (OfDescriptor d) (Either (OfData d s) (NoItem d s k)))

  to_state : (t : List ℕ) (m p : ℕ) → ForState t m p → OfState d s k t m p
  to_state t m p (inl (once (inl h))) = OfState.block (descriptor (OfDescriptor.oversize h))
  to_state t m p (inl (once (inr h))) = OfState.block (OfBlock.oversize h)
  to_state t m p (inr (inl r)) = OfState.block (descriptor r)
  to_state t m p (inr (inr (inl r))) = OfState.block (data_of r)
  to_state t m p (inr (inr (inr (once (inl h))))) = no_such_item h.0 h.1
  to_state t m p (inr (inr (inr (once (inr h))))) = not_in_rows h.repeats h.uses h.past

  of_state : (t : List ℕ) (m p : ℕ) → OfState d s k t m p → ForState t m p
  of_state t m p (OfState.block (descriptor r)) = inr (inl r)
  of_state t m p (OfState.block (OfBlock.oversize h)) = inl (once (inr h))
  of_state t m p (OfState.block (data_of r)) = inr (inr (inl r))
  of_state t m p (no_such_item e h) = inr (inr (inr (once (inl (e, h)))))
  of_state t m p (not_in_rows {rows = layout} {n = n} e u h) = inr (inr (inr (once (inr (record { layout = layout; count = n; repeats = e; uses = u; past = h })))))

  nth_told : (n : ℕ) (e : check d ≡ ok n) (ns : List Note) → walk_by (unfolded d) (repeated d) s ≡ ok ns → Told (NoItem d s k) (the (get_elem? ns k) 17 0)
  nth_told n e ns w =
      let x = walked_by d n e s ns w in
      the_told (get_elem? ns k) 17 0 (λ h. past x (repeated d) refl (omega (arith, not_there ns k h))) (λ i h y. among x (is_there ns k i h) y)
    where
      past : WalkedBy d n e s ns → (o : Option (List Field)) → repeated d ≡ o → length ns ≤ k → ((repeated d ≡ none) × (length (unfolded d) ≤ k)) ⊎ None17 d s k
      past x none r l = inl (r, omega (arith, item_count x.fields s ns x.walks, ap length (x.plain r)))
      past x (some layout) r l = inr (record { layout = layout; count = length ns; repeats = r; uses = x.uses layout r; past = l })

      among : WalkedBy d n e s ns → k < length ns → ((repeated d ≡ none) × (length (unfolded d) ≤ k)) ⊎ None17 d s k → ⊥
      among x l (inl (r, h)) = let z : ⊥ = omega (arith, item_count x.fields s ns x.walks, ap length (x.plain r)) in z
      among x l (inr y) = let z : ⊥ = omega (arith, x.used y.layout y.count y.repeats y.uses, y.past) in z

  pub state_told : Told (OfState d s k) (item_at d s k)
  unfolding item_at
  state_told =
      told_as to_state of_state
      (described_then d s (λ n. walk_by (unfolded d) (repeated d) s >>= (λ ns. the (get_elem? ns k) 17 0))
      (late_either late_data (λ t m p x. wider 4 8 (omega arith) (omega arith) (once_from t m p x)))
      (λ n e. told_then (walk_by (unfolded d) (repeated d) s) (λ ns. the (get_elem? ns k) 17 0) (by_turns 5 6 7 7 (omega arith) (λ t m p x. data_from x) once_from) (data_told d n e s)
      (λ ns h. nth_told n e ns h)))

-- what an item that is found tells of the descriptor and the block
pub record FoundIn (d s : List ℕ) (k : ℕ) (i : Note) : Type 0 where
  pub count : ℕ
  pub notes : List Note
  pub checks : check d ≡ ok count
  pub walked : WalkedBy d count checks s notes
  pub is_item : get_elem? notes k ≡ some i

pub found_in : (d s : List ℕ) (k : ℕ) (i : Note) → item_at d s k ≡ ok i → FoundIn d s k i
unfolding item_at
found_in d s k i e =
    let (_, a) = ok_reject (oversize d s) 1 0 (check d >>= (λ n. walk_by (unfolded d) (repeated d) s >>= (λ ns. the (get_elem? ns k) 17 0))) i e in
    let (n, c, b) = ok_bind (check d) (λ n. walk_by (unfolded d) (repeated d) s >>= (λ ns. the (get_elem? ns k) 17 0)) i a in
    let (ns, w, t) = ok_bind (walk_by (unfolded d) (repeated d) s) (λ ns. the (get_elem? ns k) 17 0) i b in
    record { count = n; notes = ns; checks = c; walked = walked_by d n c s ns w; is_item = of (get_elem? ns k) t }
  where
    of : (o : Option Note) → the o 17 0 ≡ ok i → o ≡ some i
    of none h = absurd (let z : ◌≡◌ {A = ℕ} 0 1 = cc in let w : ⊥ = omega arith in w)
    of (some j) h = let q : j ≡ i = cc in rw q

-- THE WHOLE-NUMBER READ

not_read : (T : FieldType) (bs : List ℕ) → whole_of T bs ≡ none → (T ≡ integer → ⊥) × (T ≡ reversed_integer → ⊥)
unfolding whole_of
not_read T bs h = (
  λ e. let k : some (signed bs) ≡ none = rw e at h in let z : ◌≡◌ {A = ℕ} 0 1 = cc in let w : ⊥ = omega arith in w,
  λ e. let k : some (signed (reverse bs)) ≡ none = rw e at h in let z : ◌≡◌ {A = ℕ} 0 1 = cc in let w : ⊥ = omega arith in w,
)

module _ (d s : List ℕ) (k : ℕ) where
  data WrongKind : List ℕ → ℕ → ℕ → Type 0 where
    another : {fs : List Field} {q : ℕ} {f : Field} {rest : List ℕ} → Unfolds d fs → StartsAt fs s k f q rest → (HasType f 0x23 → ⊥) → (HasType f 0x24 → ⊥)
        → WrongKind (8 ∷ []) 18 q

  module _ (i : Note) (e : item_at d s k ≡ ok i) where
    pub found : FoundIn d s k i
    found = found_in d s k i e

    pub typed : type_of i.field.code ≡ some i.field.type
    typed = (item_good d s k i e).field_good.typed

    abbrev pub fields : List Field
    fields = found.walked.fields

    -- an item that starts somewhere does so among the fields of the walk
    pub starts_among : (fs : List Field) (q : ℕ) (f : Field) (rest : List ℕ) → Unfolds d fs → StartsAt fs s k f q rest → StartsAt fields s k f q rest
    starts_among fs q f rest u x =
        found.walked.among fs k q f rest u x (omega (arith, is_there found.notes k i found.is_item, item_count fields s found.notes found.walked.walks))

    pub starts : (fs : List Field) (q : ℕ) (f : Field) (rest : List ℕ) → Unfolds d fs → StartsAt fs s k f q rest → (i.field ≡ f) × (i.start ≡ q)
    starts fs q f rest u x =
        let (j, a, b, c) = starts_unique fields s found.notes k found.walked.walks f q rest (starts_among fs q f rest u x) in
        let g : get_elem? found.notes k ≡ some i = found.is_item in
        let h : j ≡ i = cc in
        (ap (λ x. x.field) (sym h) ∙ b, ap (λ x. x.start) (sym h) ∙ c)

    -- a whole number is read of X'23' and X'24' alone
    whole_type : {z : ℤ} (T : FieldType) → i.field.type ≡ T → whole_of T (value_of s i) ≡ some z → (HasType i.field 0x23 → ⊥) → (HasType i.field 0x24 → ⊥) → ⊥
    unfolding whole_of
    whole_type integer t h a b = a (rw t at (has_type i.field typed))
    whole_type reversed_integer t h a b = b (rw t at (has_type i.field typed))
    whole_type fixed_bytes t h a b = let z : ◌≡◌ {A = ℕ} 0 1 = cc in let w : ⊥ = omega arith in w
    whole_type variable_bytes t h a b = let z : ◌≡◌ {A = ℕ} 0 1 = cc in let w : ⊥ = omega arith in w
    whole_type terminated_bytes t h a b = let z : ◌≡◌ {A = ℕ} 0 1 = cc in let w : ⊥ = omega arith in w
    whole_type short_bytes t h a b = let z : ◌≡◌ {A = ℕ} 0 1 = cc in let w : ⊥ = omega arith in w
    whole_type packed_decimal t h a b = let z : ◌≡◌ {A = ℕ} 0 1 = cc in let w : ⊥ = omega arith in w
    whole_type hex_float t h a b = let z : ◌≡◌ {A = ℕ} 0 1 = cc in let w : ⊥ = omega arith in w
    whole_type reversed_float t h a b = let z : ◌≡◌ {A = ℕ} 0 1 = cc in let w : ⊥ = omega arith in w
    whole_type binary_float t h a b = let z : ◌≡◌ {A = ℕ} 0 1 = cc in let w : ⊥ = omega arith in w

    kind_told : Told WrongKind (the (whole_of i.field.type (value_of s i)) 18 i.start)
    kind_told = go (whole_of i.field.type (value_of s i)) refl
      where
        first_kind : whole_of i.field.type (value_of s i) ≡ none → First WrongKind 18 i.start
        first_kind n =
            let x = item_starts fields s found.notes k found.walked.walks i found.is_item in
            record {
              turn = 8 ∷ [];
              reason =
                  another found.walked.unfolds x.1 (λ t. (not_read i.field.type (value_of s i) n).0 (type_is i.field typed 0x23 integer (omega arith) refl t))
                  (λ t. (not_read i.field.type (value_of s i) n).1 (type_is i.field typed 0x24 reversed_integer (omega arith) refl t));
              others_later = λ t m q r. later r;
            }
          where
            later : {t : List ℕ} {m q : ℕ} → WrongKind t m q → Earlier (8 ∷ []) t ⊎ ((t ≡ 8 ∷ []) × (m ≡ 18) × (q ≡ i.start))
            later (another {fs = fs} {q = q} {f = f} {rest = rest} u x a b) = inr (refl, refl, sym (starts fs q f rest u x).1)

        go : (o : Option ℤ) → whole_of i.field.type (value_of s i) ≡ o → Told WrongKind (the o 18 i.start)
        go none n = refused (first_kind n)
        go (some z) h = accepted (λ t m p r. no_kind r)
          where
            no_kind : {t : List ℕ} {m p : ℕ} → WrongKind t m p → ⊥
            no_kind (another {fs = fs} {q = q} {f = f} {rest = rest} u x a b) =
                let y = (starts fs q f rest u x).0 in
                whole_type i.field.type refl h (λ t. a (rw y at t)) (λ t. b (rw y at t))

  to_whole : (t : List ℕ) (m p : ℕ) → Either (OfState d s k) WrongKind t m p → OfWholeNumber d s k t m p
  to_whole t m p (inl r) = state r
  to_whole t m p (inr (another u x a b)) = wrong_kind u x a b

  of_whole : (t : List ℕ) (m p : ℕ) → OfWholeNumber d s k t m p → Either (OfState d s k) WrongKind t m p
  of_whole t m p (state r) = inl r
  of_whole t m p (wrong_kind u x a b) = inr (another u x a b)

  pub state_from : (t : List ℕ) (m p : ℕ) → OfState d s k t m p → From 1 7 t
  state_from t m p (OfState.block r) = wider 1 7 (omega arith) (omega arith) (block_from r)
  state_from t m p (no_such_item e h) = from 1 7 7 [] (omega arith) (omega arith)
  state_from t m p (not_in_rows e u h) = from 1 7 7 [] (omega arith) (omega arith)

  kind_from : (t : List ℕ) (m p : ℕ) → WrongKind t m p → From 8 8 t
  kind_from t m p (another u x a b) = from 8 8 8 [] (omega arith) (omega arith)

  pub whole_told : Told (OfWholeNumber d s k) (whole_number d s k)
  unfolding whole_number
  whole_told =
      told_as to_whole of_whole
      (told_then (item_at d s k) (λ i. the (whole_of i.field.type (value_of s i)) 18 i.start >>= (λ z. ok (i.is_null, if i.is_null then pos 0 else z)))
      (by_turns 1 7 8 8 (omega arith) state_from kind_from) (state_told d s k)
      (λ i e. told_made (the (whole_of i.field.type (value_of s i)) 18 i.start) (λ z. (i.is_null, if i.is_null then pos 0 else z)) (kind_told i e)))
