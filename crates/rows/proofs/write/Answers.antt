-- `rows::write` meets its contract.
-- Assumes nothing.
use native.Mathlib.Omega.{arith}
use borrow.Author.Rules.{rules}
use Rattle.rows.proofs.Stores.{moved}
use Rattle.rows.proofs.Passing.{moved_behind}
use Rattle.rows.proofs.write.Goals as goal

pub returns-clause-plan_after : goal.returns-clause-plan_after
returns-clause-plan_after c = let behind = moved c.pass-n.new.plan c.copy_within.new.self c.min-kept.result c.args.before (omega arith) c.copy_within.ensures.after in search (rules, moved_behind)
