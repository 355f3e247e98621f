use Rattle.fields.specs.Parts.{entry_by}
use borrow.Author.Rules.{rules}
use Rattle.fields.proofs.entry_of.Goals as goal

pub returns : goal.returns
unfolding entry_by
returns c = search rules
