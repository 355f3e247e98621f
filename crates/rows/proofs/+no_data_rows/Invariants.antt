-- The position of the triplet at hand falls: the measure is 3p for the row at p, and 3q + 1 and 3q + 2 for a layout and a group whose id's triplet
-- stands at q.
use Prim.Native.Nat.{ℕ, ◌+◌}
use lib.ListN.{get_or}
use Rattle.plans.specs.Left.{groups_left}
use Rattle.rows.proofs.Layouts.{Plain}
use Rattle.rows.proofs.+no_data_rows.Given as goal

abbrev pub decreases-endless_layout : goal.decreases-endless_layout
decreases-endless_layout l = let q : ℕ = get_or l.tables.now.starts l.group.id 0 in q + q + q + 1

abbrev pub decreases-endless_group : goal.decreases-endless_group
decreases-endless_group l = let q : ℕ = get_or l.tables.now.starts l.group.id 0 in q + q + q + 2

abbrev pub decreases-endless_row : goal.decreases-endless_row
decreases-endless_row l = l.p + l.p + l.p

abbrev pub invariant-endless_row-loop-group : goal.invariant-endless_row-loop-group
invariant-endless_row-loop-group l = Plain l.desc l.tables.starts l.p l.head (groups_left l.group-iterator)
