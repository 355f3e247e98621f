use mathlib.Core.Path.{refl}
use native.Mathlib.Omega.{arith}
use Rattle.descriptors.proofs.Closing.{none_there, other_place}
use Rattle.descriptors.proofs.row_place.Goals as goal

pub returns-then-is_none : goal.returns-then-is_none
returns-then-is_none c =
    let r = c.requires in
    let s = c.start.ensures in
    let n = none_there _ _ _ c.field.ensures c.is_none.ensures c.if-is_none.true in
    (other_place _ _ _ _ _ (omega arith) (omega arith) refl n r.0 r.1 _ s.0 r.2, s.1)
