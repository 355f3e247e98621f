use mathlib.Core.Path.{◌≡◌}
use Prim.Native.Nat.{◌+◌}
use lib.ListN.{get_or}
use borrow.Author.Rules.{rules}
use Rattle.fdoca.specs.Packed.{half_bytes}
use Rattle.numbers.proofs.Decimals.{digit_bad, digits_more, number_more, digits_all, no_digits, below_more, digit_times, digit_plus}
use Rattle.numbers.proofs.magnitude.Goals as goal

pub loop-i-init : goal.loop-i-init
loop-i-init c = search (rules, no_digits)

pub returns-then-d-gt9 : goal.returns-then-d-gt9
returns-then-d-gt9 c =
    let same : c.from-d.result ≡ get_or (half_bytes c.args.s.now) (c.args.from + c.loop-i.i) 0 = cc in
    search (rules, digit_bad)

pub overflow_mul-n : goal.overflow_mul-n
overflow_mul-n c = search (rules, digit_times)

pub overflow_add-n : goal.overflow_add-n
overflow_add-n c = search (rules, digit_plus)

pub loop-i-preserved : goal.loop-i-preserved
loop-i-preserved c =
    let same : c.from-d.result ≡ get_or (half_bytes c.args.s.now) (c.args.from + c.loop-i.i) 0 = cc in
    search (rules, digits_more, number_more, below_more)

pub returns : goal.returns
returns c = search (rules, digits_all)
