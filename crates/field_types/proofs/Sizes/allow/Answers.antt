use borrow.Author.Rules.{rules}
use Rattle.fdoca.proofs.Tests.{tests}
use Rattle.field_types.proofs.Allowed.{by_top, by_two, by_three, by_digits}
use Rattle.field_types.proofs.Sizes.allow.Goals as goal
use Rattle.field_types.proofs.Sizes.allow.Goals.{then-size-a-2, else-size-a-2}

pub returns-in-UpTo : goal.returns-in-UpTo
returns-in-UpTo c = search (by_top)

pub returns-then-size-a : goal.returns-then-size-a
returns-then-size-a c = rw (← by_two _ _ _ _ c.in-Two.is) (search tests)

pub returns-else-size-a : goal.returns-else-size-a
returns-else-size-a c = rw (← by_two _ _ _ _ c.in-Two.is) (search tests)

pub returns-then-size-b : goal.returns-then-size-b
returns-then-size-b c = rw (← by_three _ _ _ _ _ c.in-Three.is) (elim c.if-size-a-2.branch [ then-size-a-2 w ↦ search (rules, tests) | else-size-a-2 w ↦ search (rules, tests) ])

pub returns-else-size-b : goal.returns-else-size-b
returns-else-size-b c = rw (← by_three _ _ _ _ _ c.in-Three.is) (elim c.if-size-a-2.branch [ then-size-a-2 w ↦ search (rules, tests) | else-size-a-2 w ↦ search (rules, tests) ])

pub returns-in-DigitsUpTo : goal.returns-in-DigitsUpTo
returns-in-DigitsUpTo c = search (by_digits)
