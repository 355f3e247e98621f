-- `plans::write` meets its contract.
-- Assumes nothing.
use Rattle.plans.proofs.Referred.{marked_is, top_made, top_room, top_written, all_room, all_written}
use Rattle.plans.proofs.write.Goals as goal

pub expand-requires : goal.expand-requires
expand-requires c = let none = c.in-None.ensures in search (top_made, top_room)

pub fill-requires : goal.fill-requires
fill-requires c = let some = c.in-Some.ensures in let marked = marked_is some in search all_room

pub returns-in-Some : goal.returns-in-Some
returns-in-Some c = let some = c.in-Some.ensures in let marked = marked_is some in search all_written

pub returns-in-None : goal.returns-in-None
returns-in-None c = let none = c.in-None.ensures in search top_written
