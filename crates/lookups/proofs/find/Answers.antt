use Rattle.lookups.proofs.Calling.{ready, item_over, item_refused, item_fine}
use borrow.Author.Rules.{rules}
use Rattle.lookups.proofs.find.Goals as goal

pub returns-then-data-gt-MOST_DATA : goal.returns-then-data-gt-MOST_DATA
returns-then-data-gt-MOST_DATA c = search (item_over)

pub returns-in-Err : goal.returns-in-Err
returns-in-Err c = let k = c.in-Err.ensures in search (item_refused)

pub find_planned-requires : goal.find_planned-requires
find_planned-requires c = let k = c.in-Ok.ensures in search (rules, ready)

pub returns-in-Ok : goal.returns-in-Ok
returns-in-Ok c = let k = c.in-Ok.ensures in search (item_fine)
