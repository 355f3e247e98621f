use borrow.Author.Rules.{rules}
use Rattle.listing.proofs.Blocks.{refused_text, count_few, count_within, part_counted, part_few, all_measured, items_text}
use Rattle.listing.proofs.write_by.Goals as goal

pub returns-in-Err : goal.returns-in-Err
returns-in-Err c = let k = c.in-Err.ensures in search refused_text

pub first-requires : goal.first-requires
first-requires c = let k = c.in-Ok.ensures in search (rules, count_few)

pub slice_bounds-items-end : goal.slice_bounds-items-end
slice_bounds-items-end c = let k = c.in-Ok.ensures in search count_within

pub slice_bounds-items-end-in-Ok : goal.slice_bounds-items-end-in-Ok
slice_bounds-items-end-in-Ok c = let k = c.in-Ok.ensures in search part_counted

pub items-requires : goal.items-requires
items-requires c = let k = c.in-Ok.ensures in search (rules, all_measured, part_few)

pub returns-in-Ok : goal.returns-in-Ok
returns-in-Ok c = let k = c.in-Ok.ensures in search items_text
