use borrow.Author.Rules.{rules}
use Rattle.numbers.proofs.Decimals.{half_left, half_right}
use Rattle.numbers.proofs.half.Goals as goal

pub returns-then-i-eq0 : goal.returns-then-i-eq0
returns-then-i-eq0 c = search (rules, half_left)

pub returns-else-i-eq0 : goal.returns-else-i-eq0
returns-else-i-eq0 c = search (rules, half_right)
