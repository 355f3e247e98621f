use mathlib.Core.Path.{refl}
use native.Mathlib.Omega.{arith}
use Rattle.fields.proofs.Replacing.{replaced_by_none, replaced_digits, replaced_length}
use Rattle.fields.proofs.replaced.Goals as goal

pub returns-then-size-eq0 : goal.returns-then-size-eq0
returns-then-size-eq0 c = search (replaced_by_none)

pub returns-then-in_digits : goal.returns-then-in_digits
returns-then-in_digits c =
    replaced_digits _ _ _ _ _ c.from.ensures c.from-2.ensures _ _ (omega arith) (omega arith) c.if-size-eq0.false refl refl _ _ _ c.in_digits.ensures
    c.if-in_digits.true c.number.ensures c.entry_of.ensures

pub returns : goal.returns
returns c =
    replaced_length _ _ _ _ _ c.from.ensures c.from-2.ensures _ _ (omega arith) (omega arith) c.if-size-eq0.false refl refl _ _ _ c.in_digits.ensures
    c.if-in_digits.false refl c.entry_of-2.ensures
