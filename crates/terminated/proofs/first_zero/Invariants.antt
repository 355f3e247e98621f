-- `terminated::first_zero` meets its contract. The invariant: none of the `i` bytes that were passed is zero.
-- Assumes nothing.
use Rattle.std.proofs.Common.{◌≤◌, ◌+◌, ◌-◌, ◌≡◌, ◌==◌, length, drop}
use Rattle.std.specs.List.{position_or_len}
use Rattle.terminated.proofs.first_zero.Given as goal

abbrev pub invariant-loop-i : goal.invariant-loop-i
invariant-loop-i l = (l.i ≤ length l.s) × (position_or_len (λ b. b == 0) l.s ≡ l.i + position_or_len (λ b. b == 0) (drop l.i l.s))

abbrev pub decreases-loop-i : goal.decreases-loop-i
decreases-loop-i l = length l.s - l.i
