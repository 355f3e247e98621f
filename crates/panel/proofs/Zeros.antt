-- What a C caller is given of a refused item: its number and place, no null mark, and zeros.
use Rattle.std.proofs.Common.{◌≡◌, ℕ}
use Rattle.fdoca.specs.Basics.{Result, refuse}
use Rattle.fdoca.specs.Walk.{Note}
use Rattle.panel.specs.Given.{StateGiven}

pub refused_zeros : {x : Result Note} {number place null code lead value spare : ℕ} (m p : ℕ) → x ≡ refuse m p → StateGiven x number place null code lead value spare
    → (number ≡ m) × (place ≡ p) × (null ≡ 0) × (code ≡ 0) × (lead ≡ 0) × (value ≡ 0) × (spare ≡ 0)
refused_zeros m p e g =
    (rw e at g.returned, rw e at g.placed, rw e at g.marked, rw e at g.coded, rw e at g.led, rw e at g.sized, rw e at g.spared)
