use mathlib.Core.Path.{◌≡◌}
use Prim.Native.Nat.{◌^◌, ◌≤◌, ◌<◌}
use Rattle.floats.specs.Scaled.{units_of}
use Rattle.floats.proofs.Scaled.shifted_left.Given as goal

abbrev pub invariant-loop-shifted : goal.invariant-loop-shifted
invariant-loop-shifted l = (units_of l.shifted ≡ units_of l.fn.self) × (l.shifted.significand < 2 ^ 53) × (l.shifted.power ≤ l.fn.self.power)

abbrev pub decreases-loop-shifted : goal.decreases-loop-shifted
decreases-loop-shifted l = l.shifted.power
