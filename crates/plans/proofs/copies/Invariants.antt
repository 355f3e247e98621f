-- `plans::copies` meets its contract.
-- Assumes nothing.
use Rattle.fdoca.specs.Basics.{repeat}
use Rattle.plans.proofs.Stores.{Stored, between}
use Rattle.plans.proofs.copies.Given as goal

abbrev pub invariant-loop-k : goal.invariant-loop-k
invariant-loop-k l = Stored l.initial.plan l.plan (repeat l.more (between l.initial.plan l.from l.to)) l.to l.k
