use native.Mathlib.Omega.{arith}
use Rattle.field_types.proofs.Allowed.{replaces_nothing, suits_none, suits_rule}
use Rattle.field_types.proofs.good_length.Goals as goal

pub returns-then-length-eq0 : goal.returns-then-length-eq0
returns-then-length-eq0 c = search (replaces_nothing)

pub returns-in-Some : goal.returns-in-Some
returns-in-Some c = suits_rule _ _ _ _ c.pair-length.ensures.0 c.if-length-eq0.false _ _ _ c.in-Some.ensures c.rule.ensures (omega arith) c.allow.ensures

pub returns-in-None : goal.returns-in-None
returns-in-None c = search (suits_none, c.if-length-eq0.false, c.in-None.ensures)
