use Rattle.cuts.proofs.Cutting.{ready_items, ready_rows, most_room}
use borrow.Author.Rules.{rules}
use Rattle.cuts.proofs.cut.Goals as goal

pub cut_rows-requires : goal.cut_rows-requires
cut_rows-requires c = search (rules, ready_rows, most_room)

pub cut_items-requires : goal.cut_items-requires
cut_items-requires c = search (rules, ready_items)
