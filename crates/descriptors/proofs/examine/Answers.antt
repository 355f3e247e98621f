use native.Mathlib.Omega.{arith}
use Rattle.descriptors.proofs.Examining.{oversized, at_first, first_last, placed_at, taken_on, at_next, last_next, stopped, nothing, repeating, some_there, endless_end, finished}
use mathlib.Core.Path.{◌≡◌, ◌∙◌}
use Rattle.std.proofs.lemmas.Result.{err_from_is_err_and}
use borrow.Author.Rules.{rules}
use Rattle.descriptors.proofs.examine.Goals as goal

pub returns-then-desc-gt-MOST_BYTES : goal.returns-then-desc-gt-MOST_BYTES
returns-then-desc-gt-MOST_BYTES c = search (rules, oversized)

pub loop-p-init : goal.loop-p-init
loop-p-init c =
    let r = c.requires in
    record { held = at_first _ _ r.0 r.1 r.2; small = c.if-desc-gt-MOST_BYTES.false; last_at = first_last _; not_behind = omega arith }

pub returns-in_err-x : goal.returns-in_err-x
returns-in_err-x c =
    let i = c.loop-p.invariant in
    let w = placed_at _ c.advance.result c.map_err.result c.in_err-x.field-0.0 c.map_err.ensures.cases c.in_err-x.was in
    let e = err_from_is_err_and c.from_residual.result c.from_residual.ensures.1 in
    let f : c.in_err-x.field-0.0 ≡ record { reason = w.0; place = c.loop-p.p } = search rules in
    rw e.1 (stopped _ _ _ _ _ i.small (rw w.1 at c.advance.ensures) (e.2 ∙ f))

pub loop-p-preserved : goal.loop-p-preserved
loop-p-preserved c =
    let i = c.loop-p.invariant in
    let w = taken_on _ c.advance.result c.map_err.result c.in_ok-x.x c.map_err.ensures.cases c.in_ok-x.was in
    let m = rw w at c.advance.ensures in
    record { held = at_next _ _ _ _ m _ c.from.ensures; small = i.small; last_at = last_next _ _ _ i.last_at _ _ _ m c.loop-p-test.true c.from.ensures; not_behind = omega arith }

pub returns-in_default : goal.returns-in_default
returns-in_default c = nothing _ _ _ _ c.loop-p.invariant.held c.loop-p-test.false c.loop-p.invariant.small _ c.in_default.is c.refusal-in_default.ensures

pub takes_nothing-requires : goal.takes_nothing-requires
takes_nothing-requires c = repeating _ _ _ _ c.loop-p.invariant.held c.loop-p-test.false c.loop-p.invariant.small _ _ c.in-Some.is c.close.ensures

pub returns-then-takes_nothing : goal.returns-then-takes_nothing
returns-then-takes_nothing c =
    let i = c.loop-p.invariant in
    endless_end _ _ _ _ i.held c.loop-p-test.false i.small _ _ c.in-Some.is c.close.ensures _ _ _ i.last_at c.takes_nothing.ensures c.if-takes_nothing.true c.refusal-then-takes_nothing.ensures

pub to_the_end-rows-requires : goal.to_the_end-rows-requires
to_the_end-rows-requires c = some_there _ _ _ _ c.loop-p.invariant.held c.loop-p-test.false c.loop-p.invariant.small _ _ c.in-Some.is c.close.ensures

pub returns : goal.returns
returns c =
    let i = c.loop-p.invariant in
    finished _ _ _ _ i.held c.loop-p-test.false i.small _ _ c.in-Some.is c.close.ensures _ _ c.takes_nothing.ensures c.if-takes_nothing.false c.to_the_end-rows.ensures
