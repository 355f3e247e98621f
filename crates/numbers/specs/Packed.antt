-- Steps of the definitions of a packed decimal's number: document 02, Q-1.
use Rattle.std.specs.Prelude.{ℕ, List, ℤ, Option, Some, None, if◌then◌else◌}
use Rattle.std.proofs.Math.Option.{none, some}
use Rattle.std.proofs.Math.Option as defined_option
use Rattle.fdoca.specs.Basics.{in_base}
use Rattle.fdoca.specs.Packed.{Sign, with_sign, all_below}

-- The number of digits, where each is one.
unfoldable pub magnitude_of : List ℕ → Option ℕ
magnitude_of ds = if all_below 10 ds then Some (in_base 10 ds) else None

-- A number with its sign, where it has one.
abbrev pub signed_by : ℕ → defined_option.Option Sign → Option ℤ
signed_by n none = None
signed_by n (some s) = Some (with_sign s n)
