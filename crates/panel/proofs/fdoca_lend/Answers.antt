use borrow.Author.Rules.{rules}
use Rattle.panel.proofs.Giving.{lent_given}
use Rattle.panel.proofs.fdoca_lend.Goals as goal

pub returns : goal.returns
returns c = search (rules, lent_given)
