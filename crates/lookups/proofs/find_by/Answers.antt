use Rattle.std.proofs.lemmas.Result.{err_from_is_err_and}
use Rattle.lookups.proofs.Plans.{find_stop, find_none, find_mark, find_item}
use borrow.Author.Rules.{rules}
use Rattle.lookups.proofs.find_by.Goals as goal

pub returns-in_err-count : goal.returns-in_err-count
returns-in_err-count c =
    let p = err_from_is_err_and c.from_residual.result c.from_residual.ensures.1 in
    let k = c.in_err-count.ensures in
    rw (p.1, p.2) (search (find_stop))

pub returns-then-count-k : goal.returns-then-count-k
returns-then-count-k c = let k = c.in_ok-count.ensures in search (find_none)

pub item_of-requires : goal.item_of-requires
item_of-requires c = let k = c.in_ok-count.ensures in search (rules, find_mark)

pub returns : goal.returns
returns c = let k = c.in_ok-count.ensures in search (find_item)
