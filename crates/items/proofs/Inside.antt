-- What a caller knows of a measured item: it lies within the bytes.
-- Assumes nothing.
use Rattle.std.proofs.Common.{ℕ, ◌+◌, ◌-◌, ◌≤◌, ◌≡◌, sym, subst, Bool, List, length, drop, length-drop, arith}
use Rattle.fdoca.specs.FieldType.{Layout}
use Rattle.fdoca.specs.Item.{item, measure_item}
use Rattle.fdoca.proofs.Within.{Within, within_item}

-- the item at the start of the bytes, and at a place of a data block
module _ (z : Bool) (p v r : ℕ) (isNullable : Bool) (l : Layout) (mode F : ℕ) where
  pub inside : (s : List ℕ) → item z p v r ≡ measure_item isNullable l mode F s → p + v + r ≤ length s
  inside s e = subst (Within (length s)) (sym e) (within_item isNullable l mode F s)

  pub inside_at : (s : List ℕ) (at : ℕ) → at ≤ length s → item z p v r ≡ measure_item isNullable l mode F (drop at s) → at + (p + v + r) ≤ length s
  inside_at s at h e =
      let k : p + v + r ≤ length s - at = rw length-drop at (inside (drop at s) e) in
      omega arith
