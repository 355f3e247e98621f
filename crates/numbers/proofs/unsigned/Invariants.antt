use Rattle.std.proofs.Common.{◌≡◌, ◌<◌, ◌^◌, take}
use Rattle.fdoca.specs.Basics.{big}
use Rattle.fdoca.specs.Calls.{ordered}
use Rattle.numbers.proofs.unsigned.Given as goal

abbrev pub invariant-loop-i : goal.invariant-loop-i
invariant-loop-i l = (l.n ≡ big (take l.i (ordered l.s l.reversed))) × (l.n < 256 ^ l.i)
