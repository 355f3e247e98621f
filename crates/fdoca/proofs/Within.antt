-- An item that is measured lies within the bytes.
-- Assumes nothing.
use Prim.Native.Nat.{ℕ, ◌+◌, ◌≤◌}
use mathlib.Core.Bool.{Bool}
use mathlib.Core.List.{List}
use lib.ListN.{length}
use Rattle.fdoca.specs.FieldType.{Layout, rule_of, nullable}
use Rattle.fdoca.specs.Item.{Field, field_length, Measured, refused, item, measure_value, measure_item, measure}
use Rattle.fdoca.proofs.Outcomes.{Holds, of_value, of_item}

abbrev pub Within : ℕ → Measured → Type 0
Within n (refused k) = Unit {0}
Within n (item z p v r) = p + v + r ≤ n

held : (n : ℕ) → Holds n (Within n)
held n = record { short = tt; count = tt; no_end = tt; found = λ z p v r h. h }

pub within_value : (l : Layout) (mode F : ℕ) (s : List ℕ) → Within (length s) (measure_value l mode F s)
within_value l mode F s = of_value s (Within (length s)) (held (length s)) l mode F

pub within_item : (isNullable : Bool) (l : Layout) (mode F : ℕ) (s : List ℕ) → Within (length s) (measure_item isNullable l mode F s)
within_item isNullable l mode F s = of_item s (Within (length s)) (held (length s)) tt isNullable l mode F

pub within : (f : Field) (s : List ℕ) → Within (length s) (measure f s)
unfolding measure
within f s = within_item (nullable f.code) (rule_of f.type).layout f.mode (field_length f) s
