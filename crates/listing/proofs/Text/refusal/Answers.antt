use borrow.Author.Rules.{rules}
use Rattle.listing.proofs.Words.{refusal_put}
use Rattle.listing.proofs.Text.refusal.Goals as goal

pub returns : goal.returns
returns c = (search refusal_put, search rules)
