use borrow.Author.Rules.{rules}
use Rattle.panel.proofs.Giving.{check_given}
use Rattle.panel.proofs.fdoca_check.Goals as goal

pub returns : goal.returns
returns c = search (rules, check_given)
