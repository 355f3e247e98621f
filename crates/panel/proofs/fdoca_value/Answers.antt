use borrow.Author.Rules.{rules}
use Rattle.panel.proofs.Giving.{value_given}
use Rattle.panel.proofs.fdoca_value.Goals as goal

pub returns : goal.returns
returns c = search (rules, value_given)
