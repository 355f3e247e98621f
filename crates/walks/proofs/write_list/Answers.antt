-- `walks::write_list` meets its contract.
-- Assumes nothing.
use Rattle.std.proofs.Common.{rules}
use Rattle.walks.proofs.Writing.{write_done}
use Rattle.walks.proofs.write_list.Goals as goal

pub returns : goal.returns
returns c = search (rules, write_done)
