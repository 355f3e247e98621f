-- `walks::mark_part` meets its contract.
-- Assumes nothing.
use Rattle.std.proofs.Common.{rules, arith}
use Rattle.std.proofs.lemmas.List.{set-get_or}
use Rattle.walks.proofs.Steps.{step_inside}
use Rattle.walks.proofs.Marking.{mark_start, mark_more, mark_stop, mark_done}
use Rattle.walks.proofs.mark_part.Goals as goal

pub loop-entry-init : goal.loop-entry-init
loop-entry-init c = search (rules, mark_start)

pub returns-in-Err-clause-marked_part : goal.returns-in-Err-clause-marked_part
returns-in-Err-clause-marked_part c = λ fs f. rw set-get_or (mark_stop _ _ _ _ _ _ (omega arith) (omega arith) c.loop-entry.invariant.1 fs f _ c.in-Err.ensures)

pub loop-entry-preserved : goal.loop-entry-preserved
loop-entry-preserved c = (search (rules, step_inside), search (rules, mark_more))

pub returns-clause-marked_part : goal.returns-clause-marked_part
returns-clause-marked_part c = λ fs f. mark_done _ _ _ _ _ _ (omega arith) (omega arith) c.loop-entry.invariant.1 fs f
