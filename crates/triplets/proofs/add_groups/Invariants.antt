use Rattle.std.proofs.Common.{length}
use Rattle.plans.specs.Tied.{kind_of}
use Rattle.triplets.proofs.Groups.{Adding}
use Rattle.triplets.proofs.add_groups.Given as goal

abbrev pub invariant-loop-groups : goal.invariant-loop-groups
invariant-loop-groups g l = Adding (kind_of g.row.HEAD) l.last l.t l.tables l.fn.sum l.n l.groups

abbrev pub decreases-loop-groups : goal.decreases-loop-groups
decreases-loop-groups g l = length l.groups
