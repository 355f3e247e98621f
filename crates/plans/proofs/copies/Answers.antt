-- `plans::copies` meets its contract.
-- Assumes nothing.
use Rattle.plans.proofs.Stores.{copied_more, copied}
use Rattle.plans.proofs.copies.Goals as goal

pub loop-k-preserved : goal.loop-k-preserved
loop-k-preserved c = search copied_more

pub returns-clause-plan_after : goal.returns-clause-plan_after
returns-clause-plan_after c = search copied
