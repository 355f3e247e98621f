-- A plan that is the first part of a buffer.
-- Assumes nothing.
use mathlib.Core.Path.{◌≡◌, sym, ◌∙◌}
use Prim.Native.Nat.{ℕ, ◌≤◌}
use native.Mathlib.Omega.{arith}
use lib.ListN.{length, take, replicate, length-replicate}
use lib.Seq.{length-take-le}
use Rattle.descriptors.specs.declared.Examined.{Examined}
use Rattle.cuts.specs.Cut.{entries_for, Fitting}

module _ (n m v : ℕ) (h : n ≤ m) where
  pub part_length_lem : n ≡ length (take n (replicate m v))
  part_length_lem =
      let long : length (replicate m v) ≡ m = length-replicate m v in
      sym (length-take-le n (replicate m v) (omega arith))

  pub part_fits : (x : Examined) → n ≡ entries_for x → Fitting x (take n (replicate m v))
  part_fits x e = sym e ∙ part_length_lem
