use borrow.Author.Rules.{rules}
use Rattle.listing.proofs.Going.{line_room, line_more, lines_put, lines_long}
use Rattle.listing.proofs.Text.items.Goals as goal

pub item-requires : goal.item-requires
item-requires c = search (rules, line_room)

pub loop-k-preserved : goal.loop-k-preserved
loop-k-preserved c = search line_more

pub returns : goal.returns
returns c = (search lines_put, search lines_long)
