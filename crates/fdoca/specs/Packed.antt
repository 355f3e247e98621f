-- Packed decimals (document 02, Q-1; 000, "Decimal Fixed Point"): the whole number that the bytes of a value stand for.
use Rattle.std.specs.Prelude.{ℕ, ◌+◌, ◌/◌, ◌%◌, Bool, true, ◌&&◌, List, [], ◌∷◌, ltb, ℤ, pos, ◌-ℤ◌, take, drop, get_or, if◌then◌else◌}
use Rattle.std.proofs.Math.Option.{Option, none, some}
use Rattle.fdoca.specs.Basics.{lookup, in_base}

-- The half-bytes of a run of bytes, the left one of each byte first.
unfoldable pub half_bytes : List ℕ → List ℕ
half_bytes [] = []
half_bytes (b ∷ bs) = b / 16 ∷ b % 16 ∷ half_bytes bs

pub data Sign : Type 0 where
  plus minus : Sign

-- The signs by their half-bytes; 0 to 9 are none.
abbrev pub signs : List (ℕ × Sign)
signs = (0xA, plus) ∷ (0xB, minus) ∷ (0xC, plus) ∷ (0xD, minus) ∷ (0xE, plus) ∷ (0xF, plus) ∷ []

-- Minus zero is 0.
abbrev pub with_sign : Sign → ℕ → ℤ
with_sign plus n = pos n
with_sign minus n = pos 0 -ℤ pos n

-- Each number is below n.
abbrev pub all_below : ℕ → List ℕ → Bool
all_below n [] = true
all_below n (h ∷ hs) = ltb h n && all_below n hs

-- Unused half-bytes, which are zero, then digits, which are 0 to 9, then a sign.
abbrev pub read_digits : (unused ds : List ℕ) → Option Sign → Option ℤ
read_digits unused ds none = none
read_digits unused ds (some s) = if all_below 1 unused && all_below 10 ds then some (with_sign s (in_base 10 ds)) else none

-- One half-byte is unused before an even number of digits.
abbrev pub unused_before : (p : ℕ) → ℕ
unused_before p = (p + 1) % 2

-- The number of p digits and their sign; none where a digit, the sign or the unused half-byte is not valid.
unfoldable pub packed_number : (p : ℕ) → List ℕ → Option ℤ
packed_number p bs =
    let hs = half_bytes bs in
    let u = unused_before p in
    read_digits (take u hs) (take p (drop u hs)) (lookup (get_or hs (u + p) 0) signs)
