-- `walks::copy_pass` meets its contract.
-- Assumes nothing.
use Rattle.walks.proofs.Passing.{Copied}
use Rattle.walks.proofs.copy_pass.Given as goal

abbrev pub invariant-loop-i : goal.invariant-loop-i
invariant-loop-i l = Copied l.initial.plan l.plan l.before l.k l.m l.i
