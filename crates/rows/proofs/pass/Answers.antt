-- `rows::pass` meets its contract.
-- Assumes nothing.
use borrow.Author.Rules.{rules}
use Rattle.plans.proofs.Referred.{marked_is}
use Rattle.rows.proofs.Passing.{pass_made, pass_room, row_count, row_small, row_passed, sda_count, sda_passed}
use Rattle.rows.proofs.pass.Goals as goal

pub expand-requires : goal.expand-requires
expand-requires c = let none = c.in-None.ensures in search (pass_made, pass_room)

pub returns-in-None-clause-value : goal.returns-in-None-clause-value
returns-in-None-clause-value c = let none = c.in-None.ensures in search (row_count, row_small)

pub returns-in-None-clause-plan_after : goal.returns-in-None-clause-plan_after
returns-in-None-clause-plan_after c = let none = c.in-None.ensures in search row_passed

pub returns-in-Some-clause-value : goal.returns-in-Some-clause-value
returns-in-Some-clause-value c = let some = c.in-Some.ensures in let marked = marked_is some in search (rules, sda_count)

pub returns-in-Some-clause-plan_after : goal.returns-in-Some-clause-plan_after
returns-in-Some-clause-plan_after c = let some = c.in-Some.ensures in let marked = marked_is some in search sda_passed
