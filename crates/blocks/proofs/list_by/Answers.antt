use Rattle.std.proofs.lemmas.Result.{err_from_is_err_and}
use borrow.Author.Rules.{rules}
use Rattle.blocks.proofs.Plans.{stopped_way, item_part, few_items, items_within, small_way, part_room, part_few, listed_way}
use Rattle.blocks.proofs.list_by.Goals as goal

pub returns-in_err-count : goal.returns-in_err-count
returns-in_err-count c =
    let p = err_from_is_err_and c.from_residual.result c.from_residual.ensures.1 in
    let k = c.in_err-count.ensures in
    rw (p.1, p.2) (search (stopped_way))

pub overflow_mul-count : goal.overflow_mul-count
overflow_mul-count c = let k = c.in_ok-count.ensures in search (rules, few_items)

pub returns-then-list-count : goal.returns-then-list-count
returns-then-list-count c = let k = c.in_ok-count.ensures in search (small_way)

pub slice_bounds-write_list-end : goal.slice_bounds-write_list-end
slice_bounds-write_list-end c = let k = c.in_ok-count.ensures in search (items_within)

pub slice_bounds-write_list-end-2 : goal.slice_bounds-write_list-end-2
slice_bounds-write_list-end-2 c = let k = c.in_ok-count.ensures in search (item_part)

pub write_list-requires : goal.write_list-requires
write_list-requires c = let k = c.in_ok-count.ensures in search (rules, part_room, part_few)

pub returns : goal.returns
returns c = let k = c.in_ok-count.ensures in search (listed_way)
