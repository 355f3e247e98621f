use Rattle.std.proofs.Common.{◌≡◌, None, Some, Err, arith}
use Rattle.std.proofs.lemmas.Result.{err_from_is_err_and}
use Rattle.fdoca.specs.declared.Reason.TheVariants.{NotCarried}
use Rattle.triplets.proofs.Sums.{none_taken, some_taken, carried}
use Rattle.triplets.proofs.add_elements.Goals as goal

pub returns-in_err-items : goal.returns-in_err-items
returns-in_err-items c =
    let none : c.items_taken.result ≡ None = grind arith in
    let p = err_from_is_err_and c.from_residual.result c.from_residual.ensures.1 in
    let refused : c.ok_or.result ≡ Err p.0 = rw p.2 c.in_err-items.was in
    let same : p.0 ≡ NotCarried = grind arith in
    rw (p.1, same) (none_taken _ _ _ _ (carried _ _ c.if-group-eq0.false) (rw none at c.items_taken.ensures))

pub returns : goal.returns
returns c =
    let some : c.items_taken.result ≡ Some c.in_ok-items.items = grind arith in
    rw (c.plus.ensures, c.from.ensures) (some_taken _ _ _ _ (carried _ _ c.if-group-eq0.false) _ (rw some at c.items_taken.ensures))
