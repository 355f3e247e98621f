use borrow.Author.Rules.{rules}
use Rattle.floats.proofs.Shifts.{left_more}
use Rattle.floats.proofs.Scaled.shifted_left.Goals as goal

pub loop-shifted-preserved : goal.loop-shifted-preserved
loop-shifted-preserved c = search (rules, left_more)
