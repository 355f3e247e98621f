use Rattle.std.proofs.lemmas.Result.{err_from_is_err_and}
use Rattle.lookups.proofs.Calling.{ready, ready_small}
use Rattle.blocks.proofs.Calling.{list_over, list_refused, list_small, list_fine}
use borrow.Author.Rules.{rules}
use Rattle.blocks.proofs.list.Goals as goal

pub returns-then-data-gt-MOST_DATA : goal.returns-then-data-gt-MOST_DATA
returns-then-data-gt-MOST_DATA c = search (list_over)

pub returns-in_err-x : goal.returns-in_err-x
returns-in_err-x c =
    let p = err_from_is_err_and c.from_residual.result c.from_residual.ensures.1 in
    let k = c.in_err-x.ensures in
    rw (p.1, p.2) (search (list_refused))

pub too_small-requires : goal.too_small-requires
too_small-requires c = let k = c.in_ok-x.ensures in search (rules, ready_small)

pub returns-then-too_small : goal.returns-then-too_small
returns-then-too_small c = let k = c.in_ok-x.ensures in search (list_small)

pub list_planned-requires : goal.list_planned-requires
list_planned-requires c = let k = c.in_ok-x.ensures in search (rules, ready)

pub returns : goal.returns
returns c = let k = c.in_ok-x.ensures in search (list_fine)
