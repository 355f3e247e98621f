-- `plans::Groups::of` meets its contract.
-- Assumes nothing.
use Rattle.std.proofs.Common.{rules}
use Rattle.std.proofs.lemmas.List.{take_rest}
use Rattle.plans.specs.Tied.{groups_at}
use Rattle.plans.proofs.Groups.of.Goals as goal

pub returns : goal.returns
unfolding groups_at
returns c = search (rules, take_rest, c.saturating_sub.ensures, c.from.ensures)
