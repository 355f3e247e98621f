use Rattle.triplets.proofs.Sums.{misfit, one_column}
use Rattle.triplets.proofs.add_column.Goals as goal

pub returns-then-not-fits : goal.returns-then-not-fits
returns-then-not-fits c ends = misfit _ _ _ ends c.if-not-fits.ensures

pub returns : goal.returns
returns c ends = rw c.plus.ensures (one_column _ _ _ ends c.if-not-fits.ensures)
