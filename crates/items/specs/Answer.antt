-- Steps of the papers' definitions of an item's measuring.
use Rattle.std.specs.Prelude.{ℕ, ◌-◌, Bool, true, false, List, [], ◌∷◌, leb, eqb, if◌then◌else◌, Option, Some, None, Result, Ok, Err}
use Rattle.fdoca.specs.declared.Reason.{Reason}
use Rattle.fdoca.specs.Item.{refused, item, Space, is_over, measure_body}
use Rattle.fdoca.specs.Item as defined
use Rattle.fdoca.specs.Returned.{number_of}

-- Of `size` bytes that are sent behind a length field of w bytes, the first L are the value.
unfoldable pub measure_sent : (w L size left : ℕ) → defined.Measured
measure_sent w L size left = if leb size left then item false w L (size - L) else refused 13

-- What follows a length field that is not negative.
unfoldable pub measure_ranged : Space → (w L left : ℕ) → defined.Measured
measure_ranged sp w L left = if is_over sp L then refused 14 else measure_body sp w L left

-- What a null indicator tells: an item that holds no more than it, or a refusal. A form that is not nullable has none.
unfoldable pub measure_indicator : (isNullable : Bool) → List ℕ → defined.Measured
measure_indicator false s = item false 0 0 0
measure_indicator true [] = refused 13
measure_indicator true (b ∷ s) = if eqb b 0 then item false 1 0 0 else if leb 128 b then item true 1 0 0 else refused 24

-- What is told of a null indicator: the bytes that a value stands behind, or a null.
abbrev pub told : Result (Option ℕ) Reason → defined.Measured
told (Err r) = refused (number_of r)
told (Ok None) = item true 1 0 0
told (Ok (Some k)) = item false k 0 0
