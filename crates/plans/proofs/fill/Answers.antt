-- `plans::fill` meets its contract.
-- Assumes nothing.
use Rattle.plans.proofs.Stores.{filled}
use Rattle.plans.proofs.fill.Goals as goal

pub returns-clause-plan_after : goal.returns-clause-plan_after
returns-clause-plan_after c = let all = c.fill.ensures.after (λ y e. e) in search filled
