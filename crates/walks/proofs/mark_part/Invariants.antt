-- `walks::mark_part` meets its contract.
-- Assumes nothing.
use Prim.Native.Nat.{◌≤◌}
use lib.ListN.{length}
use Rattle.walks.proofs.Marking.{Marking}
use Rattle.walks.proofs.mark_part.Given as goal

abbrev pub invariant-loop-entry : goal.invariant-loop-entry
invariant-loop-entry l = (l.at ≤ length l.data) × Marking l.from l.initial.part l.data l.part l.at l.entry-index
