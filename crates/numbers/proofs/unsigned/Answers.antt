use mathlib.Core.Path.{◌≡◌}
use Prim.Native.Nat.{◌<◌}
use native.Mathlib.Omega.{arith}
use lib.ListN.{get_or}
use borrow.Author.Rules.{rules}
use Rattle.fdoca.specs.Calls.{ordered}
use Rattle.numbers.proofs.Digits.{more, room_times, room_plus, first_none, first_more, first_all, first_below}
use Rattle.numbers.proofs.unsigned.Goals as goal

pub loop-i-init : goal.loop-i-init
loop-i-init c = search (rules, first_none)

pub overflow_mul-n : goal.overflow_mul-n
overflow_mul-n c = search (rules, room_times)

pub overflow_add-n : goal.overflow_add-n
overflow_add-n c = let byte : c.from.result < 256 = omega arith in search (rules, room_plus)

pub loop-i-preserved : goal.loop-i-preserved
loop-i-preserved c =
    let byte : c.from.result < 256 = omega arith in
    let same : c.from.result ≡ get_or (ordered c.args.s.now c.args.reversed) c.loop-i.i 0 = cc in
    search (rules, first_more, more)

pub returns : goal.returns
returns c = search (rules, first_all, first_below)
