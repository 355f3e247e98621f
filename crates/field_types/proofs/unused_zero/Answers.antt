use borrow.Author.Rules.{rules}
use Rattle.fdoca.proofs.Tests.{tests}
use Rattle.field_types.specs.Parameters.{unused_zero}
use Rattle.field_types.proofs.unused_zero.Goals as goal
use Rattle.field_types.proofs.unused_zero.Goals.{then-ps-eq0, else-ps-eq0}

pub returns-then-ps-eq0-2 : goal.returns-then-ps-eq0-2
unfolding unused_zero
returns-then-ps-eq0-2 c = elim c.if-ps-eq0.branch [ then-ps-eq0 w ↦ search (rules, tests) | else-ps-eq0 w ↦ search (rules, tests) ]

pub returns-else-ps-eq0-2 : goal.returns-else-ps-eq0-2
unfolding unused_zero
returns-else-ps-eq0-2 c = elim c.if-ps-eq0.branch [ then-ps-eq0 w ↦ search (rules, tests) | else-ps-eq0 w ↦ search (rules, tests) ]
