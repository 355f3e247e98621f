use borrow.Author.Rules.{rules}
use Rattle.numbers.proofs.Digits.{digit_back, digit_front}
use Rattle.numbers.proofs.digit.Goals as goal

pub returns-then-reversed : goal.returns-then-reversed
returns-then-reversed c = search (rules, digit_back)

pub returns-else-reversed : goal.returns-else-reversed
returns-else-reversed c = search (rules, digit_front)
