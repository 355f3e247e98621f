use borrow.Author.Rules.{rules}
use Rattle.floats.proofs.Ways.{units_zero, units_small, units_normal}
use Rattle.floats.proofs.Scaled.float.Goals as goal

pub returns-then-self-eq0 : goal.returns-then-self-eq0
returns-then-self-eq0 c = search (rules, units_zero)

pub returns-then-shifted-lt-LEADING : goal.returns-then-shifted-lt-LEADING
returns-then-shifted-lt-LEADING c = search (rules, units_small)

pub returns : goal.returns
returns c = search (rules, units_normal)
