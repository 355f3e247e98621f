use Rattle.std.proofs.Common.{ap, ◌∙◌}
use Rattle.std.proofs.lemmas.Grind.{common_steps}
use native.Mathlib.Omega.{arith}
use Rattle.plans.specs.Left.{groups_left}
use Rattle.plans.proofs.Rows.{going_at, start, refers_here, down_here, off, room, more, finish_place, finish_written}
use Rattle.plans.proofs.Referred.{marked_is, column_marked, column_room, column_place, column_written, none_place, none_written, sda_room, sda_place, sda_written, row_made, row_room, copies_room, row_place, row_written}
use Rattle.plans.proofs.+expand_group.Goals as goal

pub expand-loop-group-init : goal.expand-loop-group-init
expand-loop-group-init t c =
    let left = ap groups_left c.into_iter-group-iterator.ensures.into_iter_gives ∙ c.of-group-items.ensures in
    search start

pub expand-write_group-end-requires : goal.expand-write_group-end-requires
expand-write_group-end-requires t c =
    let here = going_at _ _ _ _ _ _ _ _ c.in-Some.ensures.steps c.loop-group.invariant in
    let below = down_here _ _ _ _ _ _ _ _ _ _ here in
    search (refers_here, below, room)

pub expand-loop-group-preserved : goal.expand-loop-group-preserved
expand-loop-group-preserved t c =
    let here = going_at _ _ _ _ _ _ _ _ c.in-Some.ensures.steps c.loop-group.invariant in
    search more

pub expand-returns-clause-value : goal.expand-returns-clause-value
expand-returns-clause-value t c =
    let none = going_at _ _ _ _ _ _ _ _ c.in-None.ensures.steps.0 c.loop-group.invariant in
    search finish_place

pub expand-returns-clause-plan_after : goal.expand-returns-clause-plan_after
expand-returns-clause-plan_after t c =
    let none = going_at _ _ _ _ _ _ _ _ c.in-None.ensures.steps.0 c.loop-group.invariant in
    search finish_written

pub write_group-unwrap-own-requires : goal.write_group-unwrap-own-requires
write_group-unwrap-own-requires t c =
    let marked = column_marked _ _ _ _ _ 0 _ _ c.requires.0 c.requires.1 c.if-head-eq-GDA.true in
    grind (arith, common_steps)

pub write_group-bounds-plan-at : goal.write_group-bounds-plan-at
write_group-bounds-plan-at t c = search column_room

pub write_group-returns-then-head-eq-GDA-clause-value : goal.write_group-returns-then-head-eq-GDA-clause-value
write_group-returns-then-head-eq-GDA-clause-value t c = search column_place

pub write_group-returns-then-head-eq-GDA-clause-plan_after : goal.write_group-returns-then-head-eq-GDA-clause-plan_after
write_group-returns-then-head-eq-GDA-clause-plan_after t c = let own = rw c.unwrap-own.ensures at c.field.ensures in search column_written

pub write_group-returns-then-factor-eq0-clause-value : goal.write_group-returns-then-factor-eq0-clause-value
write_group-returns-then-factor-eq0-clause-value t c = search none_place

pub write_group-returns-then-factor-eq0-clause-plan_after : goal.write_group-returns-then-factor-eq0-clause-plan_after
write_group-returns-then-factor-eq0-clause-plan_after t c = search none_written

pub write_group-expand-once-requires : goal.write_group-expand-once-requires
write_group-expand-once-requires t c = let none = c.in-None.ensures in search (off, row_made, row_room)

pub write_group-copies-requires : goal.write_group-copies-requires
write_group-copies-requires t c = let none = c.in-None.ensures in (omega arith, search copies_room)

pub write_group-returns-in-None-clause-value : goal.write_group-returns-in-None-clause-value
write_group-returns-in-None-clause-value t c = let none = c.in-None.ensures in search row_place

pub write_group-returns-in-None-clause-plan_after : goal.write_group-returns-in-None-clause-plan_after
write_group-returns-in-None-clause-plan_after t c = let none = c.in-None.ensures in search row_written

pub write_group-fill-requires : goal.write_group-fill-requires
write_group-fill-requires t c = let some = c.in-Some.ensures in let marked = marked_is some in search sda_room

pub write_group-returns-in-Some-clause-value : goal.write_group-returns-in-Some-clause-value
write_group-returns-in-Some-clause-value t c = let some = c.in-Some.ensures in let marked = marked_is some in search sda_place

pub write_group-returns-in-Some-clause-plan_after : goal.write_group-returns-in-Some-clause-plan_after
write_group-returns-in-Some-clause-plan_after t c = let some = c.in-Some.ensures in let marked = marked_is some in search sda_written
