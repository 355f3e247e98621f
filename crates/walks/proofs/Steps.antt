-- One step of the walk, as one number.
-- Assumes nothing.
use Prim.Native.Nat.{ℕ, ◌+◌, ◌-◌, ◌/◌, ◌%◌, ◌≤◌}
use mathlib.Core.Path.{◌≡◌, refl, sym}
use mathlib.Core.Bool.{Bool, true, false, not}
use mathlib.Core.List.{List}
use native.Mathlib.Omega.{arith}
use lib.Dec.{leb, eqb}
use lib.ListN.{length, take, drop}
use borrow.Author.Rules.{part_to_end}
use Rattle.fdoca.specs.Item.{item, measure_fixed, measure_value, measure_item}
use Rattle.fdoca.specs.Item as defined
use Rattle.fdoca.proofs.Tests.{and_left, and_right}
use Rattle.field_types.specs.Layouts.{numbered, layout_of}
use Rattle.terminated.specs.declared.Measured.{Measured}
use Rattle.walks.specs.Entry.{measure_entry, is_plain, length_of, Inside, StepOver}
use Rattle.walks.proofs.Going.{lies_inside}

-- a plain entry's item
plain_measures : (e : ℕ) (s : List ℕ) → is_plain e ≡ true → measure_entry e s ≡ measure_fixed (e % 65536) s
unfolding measure_entry measure_item measure_value layout_of numbered is_plain
plain_measures e s h =
    let a : not (leb 128 (e / 16777216 % 256)) ≡ true = and_left (not (leb 128 (e / 16777216 % 256))) (eqb (e / 1099511627776 % 4) 0) h in
    let b : eqb (e / 1099511627776 % 4) 0 ≡ true = and_right (not (leb 128 (e / 16777216 % 256))) (eqb (e / 1099511627776 % 4) 0) h in
    let c : leb 128 (e / 16777216 % 256) ≡ false = go (leb 128 (e / 16777216 % 256)) a in
    simp (c, b)
  where
    go : (t : Bool) → not t ≡ true → t ≡ false
    go true q = sym q
    go false q = refl

-- the step over an item that was measured at a place of the data
module _ (e : ℕ) (s : List ℕ) (at : ℕ) where
  pub stepped : (m : Measured) (n : ℕ) → item m.null m.lead m.value m.spare ≡ measure_entry e (drop at s) → Inside s at m → n ≡ length_of m → StepOver e s at n
  stepped m n h k q = record { over = m; measured = h; step = q; inside = k }

  -- a plain item, from the part of the data that starts with it
  module _ (f : ℕ) (t : is_plain e ≡ true) (w : f ≡ e % 65536) where
    pub plain_answer : (x : defined.Measured) → x ≡ measure_fixed f (take (length s - at) (drop at s)) → x ≡ measure_entry e (drop at s)
    plain_answer x h = rw (plain_measures e (drop at s) t, ← w) (rw (part_to_end s at) at h)

    pub plain_inside : (m : Measured) → at ≤ length s → item m.null m.lead m.value m.spare ≡ measure_fixed f (take (length s - at) (drop at s)) → Inside s at m
    plain_inside m l h = lies_inside e s at m l (plain_answer (item m.null m.lead m.value m.spare) h)

pub ruleset step_ways = (stepped, plain_answer, plain_inside)

-- what a step tells
pub step_inside : (e : ℕ) (s : List ℕ) (at n : ℕ) → StepOver e s at n → at + n ≤ length s
step_inside e s at n t = omega (arith, t.step, t.inside)
