use Rattle.triplets.proofs.Sums.{too_early, none_taken, rows_taken}
use Rattle.triplets.proofs.add_rows.Goals as goal

pub returns-then-not-ends : goal.returns-then-not-ends
returns-then-not-ends c zero = too_early _ _ _ _ c.if-not-ends.true zero

pub returns-in-Some : goal.returns-in-Some
returns-in-Some c zero = rw c.plus.ensures (rows_taken _ _ _ _ (rw (c.if-not-ends.false, zero)) _ zero c.in-Some.ensures)

pub returns-in-None : goal.returns-in-None
returns-in-None c zero = none_taken _ _ _ _ (rw (c.if-not-ends.false, zero)) c.in-None.ensures
