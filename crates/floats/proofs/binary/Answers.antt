use borrow.Author.Rules.{rules}
use Rattle.floats.specs.Reals.{above}
use Rattle.floats.proofs.Ways.{low, high}
use Rattle.floats.proofs.binary.Goals as goal
use Rattle.floats.proofs.binary.Goals.{then-characteristic-eq0, else-characteristic-eq0}

pub returns-then-maximum-characteristic : goal.returns-then-maximum-characteristic
returns-then-maximum-characteristic c = search (rules, above)

pub returns : goal.returns
returns c =
    elim c.if-characteristic-eq0.branch [ then-characteristic-eq0 w ↦ search (rules, low) | else-characteristic-eq0 w ↦ search (rules, high) ]
