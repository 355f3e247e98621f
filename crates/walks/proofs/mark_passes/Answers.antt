-- `walks::mark_passes` meets its contract.
-- Assumes nothing.
use Rattle.std.proofs.Common.{rules, refl, arith}
use Rattle.walks.proofs.Passing.{pass_start, part_is_plan, pass_stop, pass_full, pass_more, pass_good}
use Rattle.walks.proofs.mark_passes.Goals as goal

pub loop-at-init : goal.loop-at-init
loop-at-init c = search pass_start

pub mark_part-requires : goal.mark_part-requires
mark_part-requires c = search (rules, part_is_plan)

pub returns-in-Err : goal.returns-in-Err
returns-in-Err c = λ rows f.
    pass_stop _ _ _ _ _ _ _ _ _ _ _ c.loop-at.invariant (omega arith) c.copy_pass.ensures refl c.loop-at-test.true _ _ c.in-Err.ensures.marked_part rows f

pub returns-then-m-once : goal.returns-then-m-once
returns-then-m-once c = λ rows f.
    pass_full _ _ _ _ _ _ _ _ _ _ _ c.loop-at.invariant (omega arith) c.copy_pass.ensures refl c.loop-at-test.true _ _ c.in-Ok.ensures.marked_part c.if-m-once.true rows f

pub loop-at-preserved : goal.loop-at-preserved
loop-at-preserved c =
    pass_more _ _ _ _ _ _ _ _ _ _ _ c.loop-at.invariant (omega arith) c.copy_pass.ensures refl c.loop-at-test.true _ _ c.in-Ok.ensures.marked_part c.requires.0 c.if-m-once.false
    c.in-Ok.ensures.at_in_bounds

pub returns : goal.returns
returns c = λ rows f. search (rules, pass_good)
