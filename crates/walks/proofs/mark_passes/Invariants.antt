-- `walks::mark_passes` meets its contract.
-- Assumes nothing.
use Prim.Native.Nat.{◌-◌}
use lib.ListN.{length}
use Rattle.walks.proofs.Passing.{Passing}
use Rattle.walks.proofs.mark_passes.Given as goal

abbrev pub invariant-loop-at : goal.invariant-loop-at
invariant-loop-at l = Passing l.initial.plan l.data l.plan l.before l.once l.from l.at l.k

abbrev pub decreases-loop-at : goal.decreases-loop-at
decreases-loop-at l = length l.initial.plan - l.k
