-- `plans::taken_count` meets its contract.
-- Assumes nothing.
use native.Mathlib.Nat.{mul-le-mul}
use native.Mathlib.Omega.{arith}
use Rattle.std.proofs.Common.{rules}
use Rattle.fdoca.proofs.Tests.{tests}
use Rattle.plans.specs.Writing.{entries_taken}
use Rattle.plans.proofs.taken_count.Goals as goal

pub returns-then-taken-eq0 : goal.returns-then-taken-eq0
unfolding entries_taken
returns-then-taken-eq0 c = search (rules, tests)

pub returns : goal.returns
unfolding entries_taken
returns c = (search (rules, tests, c.from.ensures, c.lower.ensures.0), omega (arith, mul-le-mul {n₁ = c.from.result} {m₁ = c.lower.result} {n₂ = 255} {m₂ = 65535} (omega arith) (omega arith)))
