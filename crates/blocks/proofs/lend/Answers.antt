use Rattle.blocks.proofs.Lending.{lent_part, lent_nothing}
use Rattle.blocks.proofs.lend.Goals as goal

pub returns-in-Ok : goal.returns-in-Ok
returns-in-Ok c = let k = c.in-Ok.ensures.place in search (lent_part)

pub returns-in-Err : goal.returns-in-Err
returns-in-Err c = let k = c.in-Err.ensures.place in search (lent_nothing)
