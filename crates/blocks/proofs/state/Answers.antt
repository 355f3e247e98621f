use Rattle.std.proofs.lemmas.Result.{err_from_is_err_and}
use Rattle.fdoca.proofs.Returned.{passed_on}
use Rattle.blocks.proofs.Items.{state_is}
use Rattle.blocks.proofs.state.Goals as goal

pub returns-in_err-found : goal.returns-in_err-found
returns-in_err-found c =
    let p = err_from_is_err_and c.from_residual.result c.from_residual.ensures.1 in
    let k = c.in_err-found.ensures in
    rw (p.1, p.2) (search (passed_on))

pub returns : goal.returns
returns c = let k = c.in_ok-found.ensures in search (state_is)
