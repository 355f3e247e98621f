use Rattle.std.proofs.lemmas.Result.{err_from_is_err_and}
use borrow.Author.Rules.{rules}
use Rattle.fdoca.proofs.Returned.{passed_on}
use Rattle.blocks.proofs.Lending.{place_found, place_within}
use Rattle.blocks.proofs.value_place.Goals as goal

pub returns-in_err-found : goal.returns-in_err-found
returns-in_err-found c =
    let p = err_from_is_err_and c.from_residual.result c.from_residual.ensures.1 in
    let k = c.in_err-found.ensures in
    rw (p.1, p.2) (search (rules, passed_on))

pub returns : goal.returns
returns c = let k = c.in_ok-found.ensures in search (rules, place_found, place_within)
