use Rattle.std.proofs.Common.{◌≡◌, ◌<◌, ◌^◌, true, take}
use Rattle.fdoca.specs.Basics.{in_base}
use Rattle.fdoca.specs.Packed.{all_below}
use Rattle.numbers.proofs.Decimals.{digits_from}
use Rattle.numbers.proofs.magnitude.Given as goal

abbrev pub invariant-loop-i : goal.invariant-loop-i
invariant-loop-i l =
    (all_below 10 (take l.i (digits_from l.s l.from l.p)) ≡ true) × ((l.n ≡ in_base 10 (take l.i (digits_from l.s l.from l.p))) × (l.n < 10 ^ l.i))
