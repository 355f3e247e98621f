-- Each refusal's number is that of a reason, so that a call's number is 0 exactly where it accepts, and what it returns tells the refusal.
-- Assumes nothing.
use mathlib.Core.Path.{◌≡◌, refl, ap}
use mathlib.Core.Logic.{◌↔◌}
use Prim.Native.Nat.{ℕ, zero, suc, ◌≤◌}
use native.Mathlib.Omega.{arith}
use mathlib.Core.List.{List}
use Rattle.fdoca.specs.Basics.{Result, refuse}
use Rattle.fdoca.specs.Item.{Field}
use Rattle.fdoca.specs.Calls.{item_at, number_given}
use Rattle.fdoca.specs.Returned.{number_of, reason_of, returned, answer}
use Rattle.fdoca.specs.Reasons.{OfTriplet, torn, unknown_construct, out_of_sequence, bad_parameter, name_taken, too_many_items, missing_reference, not_carried, column_misfit, too_many_up_to, OfItem, short_data, bad_indicator, bad_count, no_end, OfItems, surplus, OfRows, too_many, OfDescriptor, triplet, endless, nothing_described, OfData, items, rows, OfBlock, descriptor, data_of, OfList, small_list, small_for_rows, OfState, no_such_item, not_in_rows, OfWholeNumber, state, wrong_kind, OfPacked, bad_digit, OfValue, no_exact_float, None}
use Rattle.fdoca.proofs.FirstReasons.{Told, refused, accepted, refused_first}
use Rattle.fdoca.proofs.CallRows.{state_told}

-- a number of the table, which has a reason
abbrev pub InTable : ℕ → Type 0
InTable m = number_of (reason_of m) ≡ m

triplet_number : {d : List ℕ} {j g s m : ℕ} → OfTriplet d j g s m → InTable m
unfolding reason_of
triplet_number (torn x) = refl
triplet_number (unknown_construct x) = refl
triplet_number (out_of_sequence x) = refl
triplet_number (OfTriplet.bad_length x) = refl
triplet_number (bad_parameter x) = refl
triplet_number (name_taken x) = refl
triplet_number (too_many_items x) = refl
triplet_number (missing_reference x) = refl
triplet_number (not_carried x) = refl
triplet_number (column_misfit x) = refl
triplet_number (too_many_up_to x) = refl

pub descriptor_number : {d t : List ℕ} {m p : ℕ} → OfDescriptor d t m p → InTable m
unfolding reason_of
descriptor_number (OfDescriptor.oversize h) = refl
descriptor_number (triplet h r) = triplet_number r
descriptor_number (endless h r) = refl
descriptor_number (nothing_described h) = refl

item_of_number : {f : Field} {s : List ℕ} {step m : ℕ} → OfItem f s step m → InTable m
unfolding reason_of
item_of_number (short_data h) = refl
item_of_number (bad_indicator h) = refl
item_of_number (bad_count h) = refl
item_of_number (no_end h) = refl

items_number : {fs : List Field} {s t : List ℕ} {m p : ℕ} → OfItems fs s t m p → InTable m
unfolding reason_of
items_number (OfItems.item x r) = item_of_number r
items_number (surplus r b e l) = refl

pub data_number : {d s t : List ℕ} {m p : ℕ} → OfData d s t m p → InTable m
unfolding reason_of
data_number (items e r) = items_number r
data_number (rows e (OfRows.item j x c l r)) = item_of_number r
data_number (rows e (too_many j x c)) = refl

block_number : {d s t : List ℕ} {m p : ℕ} → OfBlock d s t m p → InTable m
unfolding reason_of
block_number (descriptor r) = descriptor_number r
block_number (OfBlock.oversize h) = refl
block_number (data_of r) = data_number r

pub list_number : {d s t : List ℕ} {e m p : ℕ} → OfList d s e t m p → InTable m
unfolding reason_of
list_number (OfList.block r) = block_number r
list_number (small_list e h) = refl
list_number (small_for_rows e u h) = refl

pub state_number : {d s t : List ℕ} {k m p : ℕ} → OfState d s k t m p → InTable m
unfolding reason_of
state_number (OfState.block r) = block_number r
state_number (no_such_item e h) = refl
state_number (not_in_rows e u h) = refl

pub whole_number_lem : {d s t : List ℕ} {k m p : ℕ} → OfWholeNumber d s k t m p → InTable m
unfolding reason_of
whole_number_lem (state r) = state_number r
whole_number_lem (wrong_kind u x a b) = refl

pub packed_number_lem : {d s t : List ℕ} {k m p : ℕ} → OfPacked d s k t m p → InTable m
unfolding reason_of
packed_number_lem (OfPacked.state r) = state_number r
packed_number_lem (OfPacked.wrong_kind u x a) = refl
packed_number_lem (bad_digit v x z b u w) = refl

pub value_number : {d s t : List ℕ} {k m p : ℕ} → OfValue d s k t m p → InTable m
unfolding reason_of
value_number (OfValue.state r) = state_number r
value_number (OfValue.wrong_kind u x a) = refl
value_number (no_exact_float u x n b z w) = refl

-- the number of no reason is 0
pub some_number : (m : ℕ) → InTable m → 1 ≤ m
unfolding reason_of
some_number zero h = absurd (let z : ◌≡◌ {A = ℕ} 24 0 = h in let o : ⊥ = omega arith in o)
some_number (suc m) h = omega arith

module _ {A : Type 0} {R : List ℕ → ℕ → ℕ → Type 0} (reason : (t : List ℕ) (m p : ℕ) → R t m p → InTable m) where
  pub number_0 : {x : Result A} → Told R x → (number_given x ≡ 0) ↔ None R
  number_0 (refused {m = m} {p = p} f) =
      let l : 1 ≤ m = some_number m (reason f.turn m p f.reason) in
      (λ e. absurd (let z : ⊥ = omega arith in z), λ n. absurd (n f.turn m p f.reason))
  number_0 (accepted n) = (λ e. n, λ m. refl)

  -- what a call returns for a result tells it
  pub told_again : {x : Result A} → Told R x → answer (returned x) ≡ x
  told_again (refused {m = m} {p = p} f) = ap (λ n. refuse n p) (reason f.turn m p f.reason)
  told_again (accepted n) = refl

-- Each refusal of an item has the number of a reason.
pub item_reason : (d s : List ℕ) (k n p : ℕ) → item_at d s k ≡ refuse n p → InTable n
item_reason d s k n p e = state_number ((refused_first (item_at d s k) (state_told d s k) n p).0 e).reason

pub item_number : (d s : List ℕ) (k n p : ℕ) → item_at d s k ≡ refuse n p → 1 ≤ n
item_number d s k n p e = some_number n (item_reason d s k n p e)
