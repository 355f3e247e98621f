use Rattle.std.proofs.lemmas.Result.{err_from_is_err_and}
use Rattle.descriptors.proofs.Callers.{ready_room}
use Rattle.cuts.proofs.Cutting.{is_plan, items_stopped, items_cut}
use borrow.Author.Rules.{rules}
use Rattle.cuts.proofs.cut_items.Goals as goal

pub write-requires : goal.write-requires
write-requires c = search (rules, ready_room)

pub mark-requires : goal.mark-requires
mark-requires c = search (rules, is_plan)

pub returns-in_err-mark : goal.returns-in_err-mark
returns-in_err-mark c =
    let p = err_from_is_err_and c.from_residual.result c.from_residual.ensures.1 in
    let k = c.in_err-mark.ensures in
    rw (p.1, p.2) (search (items_stopped))

pub returns : goal.returns
returns c = let k = c.in_ok-mark.ensures in search (items_cut)
