use mathlib.Core.Path.{refl}
use Rattle.std.proofs.lemmas.Result.{err_from_is_err_and}
use Rattle.descriptors.proofs.sda_step.Goals as goal

pub returns-in_err-judged : goal.returns-in_err-judged
returns-in_err-judged c =
    let e = err_from_is_err_and c.from_residual.result c.from_residual.ensures.1 in
    rw (e.1, e.2) (λ es a. c.in_err-judged.ensures.refuses _ _ _ es a)

pub returns : goal.returns
returns c =
    let y = c.in_ok-judged.ensures in
    record {
      accepted = λ es a. y.accepts _ _ _ es a;
      puts = c.put_sda.ensures;
      good = y.good;
      no_row = refl;
      same_id = refl;
      counted = y.count;
      small = y.small;
    }
