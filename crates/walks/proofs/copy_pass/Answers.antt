-- `walks::copy_pass` meets its contract.
-- Assumes nothing.
use Rattle.walks.proofs.Passing.{one_copied}
use Rattle.walks.proofs.copy_pass.Goals as goal

pub loop-i-preserved : goal.loop-i-preserved
loop-i-preserved c = search one_copied
