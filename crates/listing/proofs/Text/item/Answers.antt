use Rattle.listing.proofs.Words.{item_put}
use Rattle.listing.proofs.Text.item.Goals as goal

pub returns : goal.returns
returns c = item_put _ _ _ _ _ _ _ _ c.field.ensures.0 c.field-2.ensures.0 c.field-3.ensures.0 c.value.ensures
