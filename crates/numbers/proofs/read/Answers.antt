use mathlib.Core.Logic.{inl, inr}
use borrow.Author.Rules.{rules}
use Rattle.numbers.proofs.Sign.{half_fits, half_above}
use Rattle.numbers.proofs.Whole.{no_bytes, too_long_lem, by_sign}
use Rattle.numbers.proofs.read.Goals as goal

pub returns-then-is_empty : goal.returns-then-is_empty
returns-then-is_empty c = elim c.then-is_empty.either [ inl e ↦ search (rules, no_bytes) | inr e ↦ search (rules, too_long_lem) ]

pub complement-requires : goal.complement-requires
complement-requires c = search (half_fits, half_above)

pub returns : goal.returns
returns c = search (by_sign)
