use Rattle.std.proofs.lemmas.Result.{err_from_is_err_and}
use borrow.Author.Rules.{rules}
use Rattle.blocks.proofs.Values.{value_refused, reading_known, value_other, value_null, value_short, value_read_lem}
use Rattle.blocks.proofs.value.Goals as goal

pub returns-in_err-found : goal.returns-in_err-found
returns-in_err-found c =
    let p = err_from_is_err_and c.from_residual.result c.from_residual.ensures.1 in
    let k = c.in_err-found.ensures in
    rw (p.1, p.2) (search (value_refused))

pub returns-in_err-reading : goal.returns-in_err-reading
returns-in_err-reading c =
    let p = err_from_is_err_and c.from_residual-in_err-reading.result c.from_residual-in_err-reading.ensures.1 in
    let k = c.in_ok-found.ensures in
    let o = reading_known _ _ _ _ k _ _ _ c.and_then.ensures c.of_code.ensures (λ T q. search rules) in
    let l = c.in_err-reading.ensures in
    rw (p.1, p.2) (search (value_other))

pub returns-then-found : goal.returns-then-found
returns-then-found c =
    let k = c.in_ok-found.ensures in
    let o = reading_known _ _ _ _ k _ _ _ c.and_then.ensures c.of_code.ensures (λ T q. search rules) in
    let l = c.in_ok-reading.ensures in
    search (value_null)

pub read-requires : goal.read-requires
read-requires c =
    let k = c.in_ok-found.ensures in
    let o = reading_known _ _ _ _ k _ _ _ c.and_then.ensures c.of_code.ensures (λ T q. search rules) in
    let l = c.in_ok-reading.ensures in
    search (rules, value_short)

pub returns : goal.returns
returns c =
    let k = c.in_ok-found.ensures in
    let o = reading_known _ _ _ _ k _ _ _ c.and_then.ensures c.of_code.ensures (λ T q. search rules) in
    let l = c.in_ok-reading.ensures in
    search (value_read_lem)
