-- What measuring can come to: what holds of the three refusals of a value, and of each item that lies within the bytes, holds of every outcome of a value;
-- with the refusal of a null indicator, of an item's too.
-- Assumes nothing.
use Prim.Native.Nat.{ℕ, ◌+◌, ◌-◌, ◌≤◌, min}
use mathlib.Core.Bool.{Bool, true, false}
use mathlib.Core.List.{List, [], ◌∷◌}
use native.Mathlib.Omega.{arith}
use lib.ListN.{length, take}
use Rattle.fdoca.specs.Basics.{big}
use Rattle.fdoca.specs.FieldType.{LengthField, Layout, fixed, counted, terminated}
use Rattle.fdoca.specs.Item.{Measured, refused, item, Space, unbounded, limited, reserved, space, width, is_negative, is_over, unused, measure_fixed, measure_body, measure_counted, before_zero, measure_terminated, measure_value, indicated, measure_nullable, measure_item}
use Rattle.fdoca.proofs.Tests.{by_test, by_le, by_lt, by_eq}

-- holds of every outcome over n bytes
pub record Holds (n : ℕ) (P : Measured → Type 0) : Type 0 where
  pub short : P (refused 13)
  pub count : P (refused 14)
  pub no_end : P (refused 15)
  pub found : (z : Bool) (p v r : ℕ) → p + v + r ≤ n → P (item z p v r)

module _ (s : List ℕ) (P : Measured → Type 0) (h : Holds (length s) P) where
  of_fixed : (F : ℕ) → P (measure_fixed F s)
  unfolding measure_fixed
  of_fixed F = by_le P F (length s) (λ t. h.found false 0 F 0 (omega arith)) (λ t. h.short)

  of_counted : (k : LengthField) (sp : Space) → P (measure_counted k sp s)
  unfolding measure_counted measure_body
  of_counted k sp =
      by_lt P (length s) (width k) (λ t. h.short)
      (λ t. by_test P (is_negative k (big (take (width k) s))) (λ u. h.count)
      (λ u. by_test P (is_over sp (big (take (width k) s))) (λ v. h.count)
      (λ v. by_le P (big (take (width k) s) + unused sp (big (take (width k) s))) (length s - width k)
      (λ o. h.found false (width k) (big (take (width k) s)) (unused sp (big (take (width k) s))) (omega arith)) (λ o. h.short))))

  of_terminated : (sp : Space) → P (measure_terminated sp s)
  unfolding measure_terminated
  of_terminated unbounded =
      by_lt P (before_zero s) (length s) (λ t. h.found false 0 (before_zero s) 1 (omega arith)) (λ t. h.short)
  of_terminated (limited F) =
      by_lt P (before_zero s) (min (F + 1) (length s)) (λ t. h.found false 0 (before_zero s) 1 (omega arith))
      (λ t. by_lt P (length s) (F + 1) (λ u. h.short) (λ u. h.no_end))
  of_terminated (reserved F) =
      by_lt P (length s) (F + 1) (λ t. h.short)
      (λ t. by_le P (before_zero s) F (λ u. h.found false 0 (before_zero s) (F + 1 - before_zero s) (omega arith)) (λ u. h.no_end))

  pub of_value : (l : Layout) (mode F : ℕ) → P (measure_value l mode F s)
  unfolding measure_value
  of_value fixed mode F = of_fixed F
  of_value (counted k) mode F = of_counted k (space mode F)
  of_value terminated mode F = of_terminated (space mode F)

of_nullable : (s : List ℕ) (P : Measured → Type 0) → Holds (length s) P → P (refused 24) → (l : Layout) (mode F : ℕ) → P (measure_nullable l mode F s)
unfolding measure_nullable
of_nullable [] P h bad l mode F = h.short
of_nullable (b ∷ s) P h bad l mode F =
    by_eq P b _
    (λ t. of_value s (λ m. P (indicated m))
    (record { short = h.short; count = h.count; no_end = h.no_end; found = λ z p v r k. h.found z (1 + p) v r (omega arith) })
    l mode F)
    (λ t. by_le P _ b (λ u. h.found true 1 0 0 (omega arith)) (λ u. bad))

pub of_item : (s : List ℕ) (P : Measured → Type 0) → Holds (length s) P → P (refused 24) → (isNullable : Bool) (l : Layout) (mode F : ℕ) → P (measure_item isNullable l mode F s)
unfolding measure_item
of_item s P h bad isNullable l mode F = by_test P isNullable (λ t. of_nullable s P h bad l mode F) (λ t. of_value s P h l mode F)
