use borrow.Author.Rules.{rules}
use Rattle.panel.proofs.Giving.{list_given}
use Rattle.panel.proofs.fdoca_list.Goals as goal

pub returns : goal.returns
returns c = search (rules, list_given)
