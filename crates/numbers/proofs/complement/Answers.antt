use borrow.Author.Rules.{rules}
use Rattle.numbers.proofs.Sign.{plus, minus_fits, minus}
use Rattle.numbers.proofs.complement.Goals as goal

pub returns-then-n-h : goal.returns-then-n-h
returns-then-n-h c = search (rules, plus)

pub overflow_sub-result : goal.overflow_sub-result
overflow_sub-result c = search (rules, minus_fits)

pub returns : goal.returns
returns c = search (rules, minus)
