use Rattle.fields.proofs.Parts.{digits_length, other_length}
use Rattle.fields.proofs.length_part.Goals as goal

pub returns-then-layout-number : goal.returns-then-layout-number
returns-then-layout-number c = digits_length _ _ _ c.number.ensures c.requires c.if-layout-number.true

pub returns : goal.returns
returns c = other_length _ _ _ c.number.ensures c.requires c.if-layout-number.false
