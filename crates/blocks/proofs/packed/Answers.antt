use Rattle.std.proofs.lemmas.Result.{err_from_is_err_and}
use Rattle.blocks.proofs.Decimals.{packed_refused, packed_other, packed_null, is_packing, packed_value}
use Rattle.blocks.proofs.packed.Goals as goal

pub returns-in_err-found : goal.returns-in_err-found
returns-in_err-found c =
    let p = err_from_is_err_and c.from_residual.result c.from_residual.ensures.1 in
    let k = c.in_err-found.ensures in
    rw (p.1, p.2) (search (packed_refused))

pub returns-then-ne : goal.returns-then-ne
returns-then-ne c = let k = c.in_ok-found.ensures in let m = c.if-ne.ensures in search (packed_other)

pub returns-then-found : goal.returns-then-found
returns-then-found c = let k = c.in_ok-found.ensures in let m = c.if-ne.ensures in search (packed_null)

pub unpacked-requires : goal.unpacked-requires
unpacked-requires c = let k = c.in_ok-found.ensures in let m = c.if-ne.ensures in search (is_packing)

pub returns : goal.returns
returns c = let k = c.in_ok-found.ensures in let m = c.if-ne.ensures in search (packed_value)
