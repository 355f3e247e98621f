-- The steps of `shifted_left` and `shifted_right`.
-- Assumes nothing.
use mathlib.Core.Path.{◌≡◌, sym, ◌∙◌}
use Prim.Native.Nat.{ℕ, ◌+◌, ◌-◌, ◌*◌, ◌/◌, ◌%◌, ◌^◌, ◌<◌, ◌≤◌}
use native.Mathlib.Nat.{pow-suc, mul_assoc, mul_right_comm}
use native.Mathlib.Numerals.{add-one}
use native.Mathlib.Omega.{arith}

doubled : (q p : ℕ) → q * 2 * 2 ^ p ≡ q * 2 ^ (p + 1)
doubled q p = rw (add-one, pow-suc) (mul_right_comm q 2 (2 ^ p) ∙ mul_assoc q (2 ^ p) 2)

pub left_more : (q p n : ℕ) → (p ≡ 0 → ⊥) → q * 2 ^ p ≡ n → q * 2 * 2 ^ (p - 1) ≡ n
left_more q p n h e = let k : p - 1 + 1 ≡ p = omega (arith, h) in doubled q (p - 1) ∙ rw k e

pub right_more : (q p n : ℕ) → (q % 2 ≡ 1 → ⊥) → q * 2 ^ p ≡ n → q / 2 * 2 ^ (p + 1) ≡ n
right_more q p n h e = let k : q / 2 * 2 ≡ q = omega (arith, h) in sym (doubled (q / 2) p) ∙ rw k e

pub right_room : (q n p : ℕ) → n ≤ p → q + (p - n) * 2 ^ 52 < 2 ^ 56 → 2 ^ 53 ≤ q → q / 2 + (p + 1 - n) * 2 ^ 52 < 2 ^ 56
right_room q n p l h k = omega arith
