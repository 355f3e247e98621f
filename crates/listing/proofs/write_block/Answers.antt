use borrow.Author.Rules.{rules}
use Rattle.listing.proofs.Blocks.{is_ready, few_items, part_long, part_fits, check_text, walk_text}
use Rattle.listing.proofs.write_block.Goals as goal

pub returns-in-Err : goal.returns-in-Err
returns-in-Err c = let k = c.in-Err.ensures in search check_text

pub entries-n-requires : goal.entries-n-requires
entries-n-requires c = let k = c.in-Ok.ensures in search (few_items)

pub slice_bounds-write_by-end : goal.slice_bounds-write_by-end
slice_bounds-write_by-end c = search (part_long)

pub write_by-requires : goal.write_by-requires
write_by-requires c = let k = c.in-Ok.ensures in search (rules, is_ready, part_fits)

pub returns-in-Ok : goal.returns-in-Ok
returns-in-Ok c = let k = c.in-Ok.ensures in search walk_text
