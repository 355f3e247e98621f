-- A packed decimal at a place of the data, by what a plan's entry tells of it.
use Rattle.std.specs.Prelude.{ℕ, ◌+◌, ◌-◌, ◌*◌, ◌/◌, ◌%◌, ◌≤◌, ◌<◌, Bool, false, List, ℤ, length, take, drop}
use Rattle.std.proofs.Math.Option.{Option}
use Rattle.fdoca.specs.Basics.{Result, ok, ◌>>=◌, the}
use Rattle.fdoca.specs.Packed.{packed_number}

-- How many digits a packed decimal of so many bytes has: `part` is odd where they are.
abbrev pub digits_in : (size part : ℕ) → ℕ
digits_in size part = 2 * (size - 1) + part % 2

-- It lies within the data s, and has at most 18 digits.
pub record Packing (s : List ℕ) (from size part start : ℕ) : Type 0 where
  pub inside : from + size ≤ length s
  pub small : from + size ≤ 32768
  pub some_bytes : 1 ≤ size
  pub few : digits_in size part ≤ 18
  pub part_small : part < 64
  pub place : start ≤ 32768

-- Its number with the fraction digits, or 20 at the item's start.
abbrev pub numbered : (start fraction : ℕ) → Option ℤ → Result (Bool × ℤ × ℕ)
numbered start fraction o = the o 20 start >>= (λ z. ok (false, z, fraction))

unfoldable pub read_at : List ℕ → (from size part start : ℕ) → Result (Bool × ℤ × ℕ)
read_at s from size part start = numbered start (part / 2) (packed_number (digits_in size part) (take size (drop from s)))
