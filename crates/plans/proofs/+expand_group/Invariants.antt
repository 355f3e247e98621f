-- The position of the triplet at hand falls: the measure is 2p for the row at p, and 2q + 1 for a group whose id's triplet stands at q.
use Prim.Native.Nat.{ℕ, ◌+◌}
use lib.ListN.{get_or}
use Rattle.plans.specs.Left.{groups_left}
use Rattle.plans.proofs.Rows.{Going}
use Rattle.plans.proofs.+expand_group.Given as goal

abbrev pub decreases-expand : goal.decreases-expand
decreases-expand l = l.p + l.p

abbrev pub decreases-write_group : goal.decreases-write_group
decreases-write_group l = let q : ℕ = get_or l.tables.now.starts l.group.id 0 in q + q + 1

abbrev pub invariant-expand-loop-group : goal.invariant-expand-loop-group
invariant-expand-loop-group l = Going l.desc l.tables.starts l.p l.at l.head l.initial.plan l.plan l.end (groups_left l.group-iterator)
