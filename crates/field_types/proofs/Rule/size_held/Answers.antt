use mathlib.Core.Bool.{true, false}
use mathlib.Core.Path.{◌≡◌}
use Rattle.field_types.proofs.Allowed.{default_is}
use Rattle.field_types.proofs.Rule.size_held.Goals as goal
use Rattle.field_types.proofs.Rule.size_held.Goals.{in-4, in_default}

pub returns : goal.returns
returns c = elim c.match-matches.branch [ in-4 w ↦ absurd (let z : true ≡ false = cc in cc) | in_default w ↦ search (default_is) ]
