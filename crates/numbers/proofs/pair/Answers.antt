use borrow.Author.Rules.{rules}
use Rattle.fdoca.specs.Basics.{big, in_base}
use Rattle.numbers.proofs.pair.Goals as goal

pub returns : goal.returns
unfolding big in_base
returns c = search rules
