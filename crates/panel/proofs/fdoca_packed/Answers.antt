use borrow.Author.Rules.{rules}
use Rattle.panel.proofs.Giving.{packed_given}
use Rattle.panel.proofs.fdoca_packed.Goals as goal

pub returns : goal.returns
returns c = search (rules, packed_given)
