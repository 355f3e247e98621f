use Rattle.listing.proofs.Putting.{word_put}
use Rattle.listing.proofs.Text.word.Goals as goal

pub returns : goal.returns
returns c = search word_put
