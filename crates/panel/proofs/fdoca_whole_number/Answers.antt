use borrow.Author.Rules.{rules}
use Rattle.panel.proofs.Giving.{whole_given}
use Rattle.panel.proofs.fdoca_whole_number.Goals as goal

pub returns : goal.returns
returns c = search (rules, whole_given)
