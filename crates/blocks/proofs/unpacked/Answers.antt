use Rattle.std.proofs.lemmas.Result.{err_from_is_err_and}
use Rattle.blocks.proofs.Decimals.{digits_bad, digits_read}
use Rattle.blocks.proofs.unpacked.Goals as goal

pub returns-in_err-value : goal.returns-in_err-value
returns-in_err-value c =
    let p = err_from_is_err_and c.from_residual.result c.from_residual.ensures.1 in
    let k = c.in_err-value.ensures in
    rw (p.1, p.2) (search (digits_bad))

pub returns : goal.returns
returns c = let k = c.in_ok-value.ensures in search (digits_read)
