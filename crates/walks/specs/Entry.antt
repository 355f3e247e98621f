-- The item that a plan's number says to measure, whatever its highest 16 bits hold, and the walk's step over it.
use Rattle.std.specs.Prelude.{ℕ, ◌+◌, ◌/◌, ◌%◌, ◌≤◌, ◌≡◌, Bool, not, ◌&&◌, List, eqb, length, drop, Result, Ok, Err}
use Rattle.fdoca.specs.declared.Reason.{Reason}
use Rattle.fdoca.specs.FieldType.{nullable}
use Rattle.fdoca.specs.Item.{refused, item, measure_item}
use Rattle.fdoca.specs.Item as defined
use Rattle.fdoca.specs.Returned.{number_of}
use Rattle.field_types.specs.Layouts.{layout_by}
use Rattle.terminated.specs.declared.Measured.{Measured}

unfoldable pub measure_entry : ℕ → List ℕ → defined.Measured
measure_entry e s = measure_item (nullable (e / 16777216 % 256)) (layout_by (e / 1099511627776 % 4)) (e / 4294967296 % 128) (e % 65536) s

-- The item is F bytes without a null indicator: not a nullable form, and the layout's number 0.
unfoldable pub is_plain : ℕ → Bool
is_plain e = not (nullable (e / 16777216 % 256)) && eqb (e / 1099511627776 % 4) 0

-- An item's length: all its bytes.
abbrev pub length_of : Measured → ℕ
length_of m = m.lead + m.value + m.spare

-- It lies within the data, at a place.
abbrev pub Inside : (s : List ℕ) (at : ℕ) → Measured → Type 0
Inside s at m = at + length_of m ≤ length s

-- The item at a place of the data s has n bytes.
pub record StepOver (e : ℕ) (s : List ℕ) (at n : ℕ) : Type 0 where
  pub over : Measured
  pub measured : item over.null over.lead over.value over.spare ≡ measure_entry e (drop at s)
  pub step : n ≡ length_of over
  pub inside : Inside s at over

-- The step at a place of the data s: over the item there, or the reason of its refusal.
abbrev pub Stepped : (e : ℕ) (s : List ℕ) (at : ℕ) → Result ℕ Reason → Type 0
Stepped e s at (Err r) = refused (number_of r) ≡ measure_entry e (drop at s)
Stepped e s at (Ok n) = StepOver e s at n
