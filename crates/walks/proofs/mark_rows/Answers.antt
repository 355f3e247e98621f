-- `walks::mark_rows` meets its contract.
-- Assumes nothing.
use Rattle.std.proofs.Common.{rules}
use Rattle.std.proofs.lemmas.Result.{err_from_is_err_and}
use Rattle.walks.proofs.Rows.{before_is_plan, first_stop, passes_asked, after_fits, rows_marked}
use Rattle.walks.proofs.mark_rows.Goals as goal

pub mark_part-requires : goal.mark_part-requires
mark_part-requires c = search (rules, before_is_plan)

pub returns-in_err-at : goal.returns-in_err-at
returns-in_err-at c = λ bs rows f.
    let p = err_from_is_err_and c.from_residual.result c.from_residual.ensures.1 in
    rw (p.1, p.2) (first_stop _ _ _ _ _ _ c.in_err-at.ensures.marked_part bs rows f)

pub mark_passes-requires : goal.mark_passes-requires
mark_passes-requires c =
    let part = c.in_ok-at.ensures.marked_part in
    let pre = c.requires in
    (passes_asked _ _ _ _ _ _ part pre.0, after_fits _ _ _ _ _ _ part pre.0 pre.1, search rules, search rules, search rules)

pub returns : goal.returns
returns c = rows_marked _ _ _ _ _ _ c.in_ok-at.ensures.marked_part _ _ c.mark_passes.ensures
