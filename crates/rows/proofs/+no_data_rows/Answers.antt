use native.Mathlib.Omega.{arith}
use Rattle.std.proofs.Common.{ap, ◌∙◌}
use Rattle.std.proofs.lemmas.Grind.{common_steps}
use Rattle.plans.specs.Left.{groups_left}
use Rattle.plans.proofs.Referred.{column_marked}
use Rattle.rows.proofs.Layouts.{layout_made, by_row, by_array, row_below, by_column, by_none, layout_here, by_layout, layout_below, begun, plain_at, refers_here, group_below, such_too, another, all_such}
use Rattle.rows.proofs.+no_data_rows.Goals as goal

pub endless_layout-endless_row-requires : goal.endless_layout-endless_row-requires
endless_layout-endless_row-requires t c = let none = c.in-None.ensures in search (row_below, layout_made)

pub endless_layout-returns-in-None : goal.endless_layout-returns-in-None
endless_layout-returns-in-None t c = let none = c.in-None.ensures in search by_row

pub endless_layout-returns-in-Some : goal.endless_layout-returns-in-Some
endless_layout-returns-in-Some t c = let some = c.in-Some.ensures in search by_array

pub endless_group-unwrap-own-requires : goal.endless_group-unwrap-own-requires
endless_group-unwrap-own-requires t c =
    let marked = column_marked _ _ _ _ _ 0 _ _ c.requires.0.tied c.requires.1 c.if-head-eq-GDA.true in
    grind (arith, common_steps)

pub endless_group-returns-then-head-eq-GDA : goal.endless_group-returns-then-head-eq-GDA
endless_group-returns-then-head-eq-GDA t c = let own = rw c.unwrap-own.ensures at c.field.ensures in search by_column

pub endless_group-returns-then-group-eq0 : goal.endless_group-returns-then-group-eq0
endless_group-returns-then-group-eq0 t c = search by_none

pub endless_group-endless_layout-requires : goal.endless_group-endless_layout-requires
endless_group-endless_layout-requires t c = search (layout_below, layout_here)

pub endless_group-returns-else-group-eq0 : goal.endless_group-returns-else-group-eq0
endless_group-returns-else-group-eq0 t c = search by_layout

pub endless_row-loop-group-init : goal.endless_row-loop-group-init
endless_row-loop-group-init t c =
    let left = ap groups_left c.into_iter-group-iterator.ensures.into_iter_gives ∙ c.of-group-items.ensures in
    search begun

pub endless_row-endless_group-requires : goal.endless_row-endless_group-requires
endless_row-endless_group-requires t c =
    let here = plain_at _ _ _ _ c.in-Some.ensures.steps c.loop-group.invariant in
    let below = group_below _ _ _ _ _ _ here in
    search (refers_here, below)

pub endless_row-returns-then-not-endless_group : goal.endless_row-returns-then-not-endless_group
endless_row-returns-then-not-endless_group t c = let here = plain_at _ _ _ _ c.in-Some.ensures.steps c.loop-group.invariant in search another

pub endless_row-loop-group-preserved : goal.endless_row-loop-group-preserved
endless_row-loop-group-preserved t c = let here = plain_at _ _ _ _ c.in-Some.ensures.steps c.loop-group.invariant in search such_too

pub endless_row-returns : goal.endless_row-returns
endless_row-returns t c = let none = plain_at _ _ _ _ c.in-None.ensures.steps.0 c.loop-group.invariant in search all_such
