use borrow.Author.Rules.{rules}
use Rattle.listing.proofs.Words.{first_put}
use Rattle.listing.proofs.Text.first.Goals as goal

pub returns : goal.returns
returns c = (search first_put, search rules)
