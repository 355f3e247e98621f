use borrow.Author.Rules.{rules}
use Rattle.floats.proofs.Shifts.{right_more, right_room}
use Rattle.floats.proofs.Scaled.shifted_right.Goals as goal

pub loop-shifted-preserved : goal.loop-shifted-preserved
loop-shifted-preserved c = search (rules, right_more, right_room)
