-- Numbers with fractions (document 02, Q-7; 000, section 4.3.3, the floating point types; IEEE 754): what the bits of a float stand for, and the 64-bit
-- float of exactly equal value.
use Rattle.std.specs.Prelude.{◌≡◌, ℕ, suc, ◌+◌, ◌*◌, ◌/◌, ◌%◌, ◌^◌, Bool, leb, ltb, eqb, ℤ, pos, negsuc, Float, if◌then◌else◌}
use Rattle.std.proofs.Math.Option.{Option, none, some}
use Rattle.std.specs.Float.{nan, inf, fin, binary64}
use Rattle.std.specs.Float.Ieee.{up, down, minus, fits, odd, size}

-- A significand m times 2 to the exponent e, below zero where `negative`. A zero has a sign too.
pub record Number : Type 0 where
  pub negative : Bool
  pub m : ℕ
  pub e : ℤ

-- A float equals a number: the signs agree, and the two significands, scaled by powers of two to one exponent, are equal. 2 to the e is up e / down e. No
-- number equals an infinity, or what is not a number.
unfoldable pub Equal : Float → Number → Type 0
Equal nan n = ⊥
Equal (inf s) n = ⊥
Equal (fin s m e) n = (s ≡ n.negative) × (m * up e * down n.e ≡ n.m * up n.e * down e)

-- The parts of an exponent: 2 to the e is 2 ^ ups e / 2 ^ downs e.
abbrev pub ups : ℤ → ℕ
ups (pos k) = k
ups (negsuc k) = 0

abbrev pub downs : ℤ → ℕ
downs (pos k) = 0
downs (negsuc k) = suc k

-- A float's data for the number: of all that equal it, those with an odd significand, or with exponent 0 for a zero.
unfoldable pub canonical : Number → Float
canonical n = odd (size n.m) n.negative n.m (ups n.e) (downs n.e)

-- The 64-bit float that equals the number, where there is one.
unfoldable pub equal_float : Number → Option Float
equal_float n = if fits binary64 (canonical n) then some (canonical n) else none

-- The formats of 000: the base B of the exponent, how many bits characteristic and fraction have behind the sign bit, the bias, and the maximum
-- characteristic.
pub data Base : Type 0 where
  two sixteen : Base

pub record Format : Type 0 where
  pub base : Base
  pub characteristic_bits : ℕ
  pub fraction_bits : ℕ
  pub bias : ℕ
  pub maximum : ℕ

abbrev pub format : Base → (characteristic_bits fraction_bits bias maximum : ℕ) → Format
format B c f b m = record { base = B; characteristic_bits = c; fraction_bits = f; bias = b; maximum = m }

-- X'40' of 4 and of 8 bytes; X'47' and X'48' of 4 and of 8 bytes, with bias indicator 0.
abbrev pub short_hexadecimal : Format
short_hexadecimal = format sixteen 7 24 64 127

abbrev pub long_hexadecimal : Format
long_hexadecimal = format sixteen 7 56 64 127

abbrev pub short_binary : Format
short_binary = format two 8 23 127 254

abbrev pub long_binary : Format
long_binary = format two 11 52 1023 2046

-- The parts of a float's bits: sign, characteristic and fraction.
unfoldable pub is_negative : Format → (bits : ℕ) → Bool
is_negative f bits = leb (2 ^ (f.characteristic_bits + f.fraction_bits)) bits

unfoldable pub characteristic : Format → (bits : ℕ) → ℕ
characteristic f bits = bits % 2 ^ (f.characteristic_bits + f.fraction_bits) / 2 ^ f.fraction_bits

unfoldable pub fraction : Format → (bits : ℕ) → ℕ
fraction f bits = bits % 2 ^ f.fraction_bits

-- The number of a sign, a characteristic c and a fraction t, by the base. In base 16: 0.h1 h2 .., times 16 to the c less the bias.
abbrev pub hexadecimal : Format → (negative : Bool) → (c t : ℕ) → Number
hexadecimal f negative c t = record { negative = negative; m = t; e = minus (4 * c) (4 * f.bias + f.fraction_bits) }

-- In base 2: 1.b1 b2 .., times 2 to the c less the bias; where c is 0, 0.b1 b2 .., times 2 to the 1 less the bias (IEEE 754).
abbrev pub binary : Format → (negative : Bool) → (c t : ℕ) → Number
binary f negative c t =
    if eqb c 0 then record { negative = negative; m = t; e = minus 1 (f.bias + f.fraction_bits) }
    else record { negative = negative; m = 2 ^ f.fraction_bits + t; e = minus c (f.bias + f.fraction_bits) }

abbrev pub number_by : Base → Format → (negative : Bool) → (c t : ℕ) → Number
number_by sixteen f negative c t = hexadecimal f negative c t
number_by two f negative c t = binary f negative c t

-- The number that the bits stand for.
unfoldable pub number_of : Format → (bits : ℕ) → Number
number_of f bits = number_by f.base f (is_negative f bits) (characteristic f bits) (fraction f bits)

-- The 64-bit float of the bits: none where the characteristic exceeds the maximum, or no 64-bit float equals the number.
unfoldable pub float_of : Format → (bits : ℕ) → Option Float
float_of f bits = if ltb f.maximum (characteristic f bits) then none else equal_float (number_of f bits)
