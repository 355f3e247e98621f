-- `rows::no_data` meets its contract.
-- Assumes nothing.
use Rattle.fdoca.proofs.Tests.{tests}
use Rattle.rows.specs.Pass.{no_data}
use Rattle.rows.proofs.no_data.Goals as goal

pub returns-then-entry-eq1 : goal.returns-then-entry-eq1
unfolding no_data
returns-then-entry-eq1 c = search tests

pub returns-else-entry-eq1 : goal.returns-else-entry-eq1
unfolding no_data
returns-else-entry-eq1 c = search tests
