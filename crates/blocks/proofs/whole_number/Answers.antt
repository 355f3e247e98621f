use Rattle.std.proofs.lemmas.Result.{err_from_is_err_and}
use borrow.Author.Rules.{rules}
use Rattle.blocks.proofs.Wholes.{whole_refused, order_known, whole_other, whole_null, whole_read}
use Rattle.blocks.proofs.whole_number.Goals as goal

pub returns-in_err-found : goal.returns-in_err-found
returns-in_err-found c =
    let p = err_from_is_err_and c.from_residual.result c.from_residual.ensures.1 in
    let k = c.in_err-found.ensures in
    rw (p.1, p.2) (search (whole_refused))

pub returns-in_err-reversed : goal.returns-in_err-reversed
returns-in_err-reversed c =
    let p = err_from_is_err_and c.from_residual-in_err-reversed.result c.from_residual-in_err-reversed.ensures.1 in
    let k = c.in_ok-found.ensures in
    let o = order_known _ _ _ _ k _ _ _ c.and_then.ensures c.of_code.ensures (λ T q. search rules) in
    let l = c.in_err-reversed.ensures in
    rw (p.1, p.2) (search (whole_other))

pub returns-then-found : goal.returns-then-found
returns-then-found c =
    let k = c.in_ok-found.ensures in
    let o = order_known _ _ _ _ k _ _ _ c.and_then.ensures c.of_code.ensures (λ T q. search rules) in
    let l = c.in_ok-reversed.ensures in
    search (whole_null)

pub returns : goal.returns
returns c =
    let k = c.in_ok-found.ensures in
    let o = order_known _ _ _ _ k _ _ _ c.and_then.ensures c.of_code.ensures (λ T q. search rules) in
    let l = c.in_ok-reversed.ensures in
    search (whole_read)
