-- `rows::endless` meets its contract.
-- Assumes nothing.
use borrow.Author.Rules.{rules}
use Rattle.plans.specs.Writing.{group_at}
use Rattle.rows.specs.Pass.{pass_list}
use Rattle.rows.proofs.Layouts.{pass_refers}
use Rattle.rows.proofs.endless.Goals as goal

pub endless_layout-requires : goal.endless_layout-requires
unfolding group_at
endless_layout-requires c = search pass_refers

pub returns : goal.returns
unfolding pass_list group_at
returns c = search rules
