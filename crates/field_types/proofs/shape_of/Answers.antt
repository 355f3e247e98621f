use native.Mathlib.Omega.{arith}
use borrow.Author.Tests.{not-true, not-false}
use Rattle.field_types.proofs.Allowed.{shape_not, not_eight, unused_set, without_type, told_by_rule, by_shape}
use borrow.Author.Rules.{rules}
use Rattle.field_types.proofs.shape_of.Goals as goal
use Rattle.field_types.proofs.shape_of.Goals.{then-ps-ne8-via-then-ps-ne8, then-ps-ne8-via-else-ps-ne8+then-not-unused_zero}

pub returns-then-ps-ne8 : goal.returns-then-ps-ne8
returns-then-ps-ne8 c =
    elim c.then-ps-ne8.branch [ then-ps-ne8-via-then-ps-ne8 w ↦ search (shape_not, not_eight, w.if-ps-ne8.true) | then-ps-ne8-via-else-ps-ne8+then-not-unused_zero w ↦ search (shape_not, unused_set, not-true) ]

pub returns-in_err-of_code : goal.returns-in_err-of_code
returns-in_err-of_code c = search (rules, shape_not, without_type)

pub returns-then-not-allows : goal.returns-then-not-allows
returns-then-not-allows c =
    shape_not _ _ _
    (told_by_rule _ _ _ _ c.in_ok-of_code.ensures c.rule-rule.ensures _ _ c.pair-given.ensures.0 (omega (arith, c.type_inv.ps 7)) c.size_held-size.ensures _ _ _ _ (search rules)
    c.unused_zero.ensures (search (not-false)) c.pair.ensures.0 c.allows.ensures c.if-not-allows.true)

pub returns : goal.returns
returns c = search (rules, by_shape, told_by_rule, not-false)
