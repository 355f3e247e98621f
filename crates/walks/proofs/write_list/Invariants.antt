-- `walks::write_list` meets its contract.
-- Assumes nothing.
use Prim.Native.Nat.{◌+◌, ◌*◌, ◌≤◌}
use lib.ListN.{length}
use Rattle.walks.proofs.Writing.{Writing}
use Rattle.walks.proofs.write_list.Given as goal

abbrev pub invariant-loop-k : goal.invariant-loop-k
invariant-loop-k l = (2 + 2 * length l.plan ≤ length l.list) × Writing l.plan l.initial.list l.list l.k
