use Rattle.fdoca.proofs.Tests.{tests}
use Rattle.sdas.specs.Judged.{extent_or_1}
use borrow.Author.Rules.{rules}
use Rattle.sdas.proofs.DataArray.extent.Goals as goal

pub returns-then-self-at : goal.returns-then-self-at
unfolding extent_or_1
returns-then-self-at c = search (rules, tests)

pub returns : goal.returns
unfolding extent_or_1
returns c = search (rules, tests)
