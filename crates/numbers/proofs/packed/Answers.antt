use borrow.Author.Rules.{rules}
use borrow.Author.Tests.{not-true, not-false}
use Rattle.numbers.proofs.Decimals.{unused_set, digit_above, magnitude_small, signed_read}
use Rattle.numbers.proofs.packed.Goals as goal

pub returns-then-not-unused_zero : goal.returns-then-not-unused_zero
returns-then-not-unused_zero c = search (rules, unused_set, not-true)

pub with_sign-requires : goal.with_sign-requires
with_sign-requires c = search (rules, magnitude_small)

pub returns : goal.returns
returns c = search (rules, signed_read, not-false)

pub returns-in_err-n : goal.returns-in_err-n
returns-in_err-n c = search (rules, digit_above)
