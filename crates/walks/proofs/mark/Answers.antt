-- `walks::mark` meets its contract.
-- Assumes nothing.
use Rattle.std.proofs.lemmas.Result.{err_from_is_err_and}
use Rattle.walks.proofs.Marking.{mark_stopped, mark_surplus, mark_ended}
use Rattle.walks.proofs.mark.Goals as goal

pub returns-in_err-end : goal.returns-in_err-end
returns-in_err-end c = λ fs f.
    let p = err_from_is_err_and c.from_residual.result c.from_residual.ensures.1 in
    rw (p.1, p.2) (mark_stopped _ _ _ fs f _ c.in_err-end.ensures.marked_part)

pub returns-then-end-data : goal.returns-then-end-data
returns-then-end-data c = λ fs f. mark_surplus _ _ _ fs f _ c.in_ok-end.ensures.marked_part c.if-end-data.true

pub returns : goal.returns
returns c = λ fs f. mark_ended _ _ _ fs f _ c.in_ok-end.ensures.marked_part c.if-end-data.false
