use native.Mathlib.Omega.{arith}
use Rattle.fields.proofs.Parts.{digits_layout, other_layout}
use Rattle.fields.proofs.layout_part.Goals as goal

pub returns-then-layout-number : goal.returns-then-layout-number
returns-then-layout-number c = digits_layout _ _ _ c.number.ensures c.if-layout-number.true

pub returns : goal.returns
returns c = other_layout _ _ _ c.number.ensures _ c.if-layout-number.false c.from.ensures (omega arith)
