-- Floats whose value is known, by the definitions: bits, and the bits of the 64-bit float. Zeros, the least and the greatest numbers, 1 and -1, 0.1,
-- 175.07 of table 5-29 of 002, the hexadecimal 100 and -118.625; significands of 53 and of 54 bits.
-- Assumes nothing.
use mathlib.Core.Path.{◌≡◌, refl}
use Prim.Native.Nat.{ℕ}
use mathlib.Core.List.{List, [], ◌∷◌, map}
use mathlib.Core.Option.{Option, none, some}
use lib.Ieee.{Float, binary64, to_bits}
use Rattle.fdoca.specs.Float.{Format, short_hexadecimal, long_hexadecimal, short_binary, long_binary, float_of}
use Rattle.fdoca.proofs.Everything.{everything}

abbrev bits_of : Option Float → Option ℕ
bits_of none = none
bits_of (some v) = some (to_bits binary64 v)

answered : Format → List (ℕ × Option ℕ) → List (ℕ × Option ℕ)
answered f rows = map (λ (row : ℕ × Option ℕ). (row.0, bits_of (float_of f row.0))) rows

abbrev short_binaries : List (ℕ × Option ℕ)
short_binaries =
    (0x00000000, some 0x0000000000000000)
    ∷ (0x80000000, some 0x8000000000000000)
    ∷ (0x00000001, some 0x36A0000000000000)
    ∷ (0x807FFFFF, some 0xB80FFFFFC0000000)
    ∷ (0x00800000, some 0x3810000000000000)
    ∷ (0x3F800000, some 0x3FF0000000000000)
    ∷ (0xBF800000, some 0xBFF0000000000000)
    ∷ (0x7F7FFFFF, some 0x47EFFFFFE0000000)
    ∷ (0x7F800000, none)
    ∷ (0xFFC00000, none)
    ∷ []

are_short_binaries : answered short_binary short_binaries ≡ short_binaries
unfolding answered everything
are_short_binaries = refl

abbrev long_binaries : List (ℕ × Option ℕ)
long_binaries =
    (0x0000000000000000, some 0x0000000000000000)
    ∷ (0x8000000000000000, some 0x8000000000000000)
    ∷ (0x0000000000000001, some 0x0000000000000001)
    ∷ (0x000FFFFFFFFFFFFF, some 0x000FFFFFFFFFFFFF)
    ∷ (0x0010000000000000, some 0x0010000000000000)
    ∷ (0x3FF0000000000000, some 0x3FF0000000000000)
    ∷ (0x3FB999999999999A, some 0x3FB999999999999A)
    ∷ (0xBFF0000000000000, some 0xBFF0000000000000)
    ∷ (0x4065E23D70A3D70A, some 0x4065E23D70A3D70A)
    ∷ (0x7FEFFFFFFFFFFFFF, some 0x7FEFFFFFFFFFFFFF)
    ∷ (0x7FF0000000000000, none)
    ∷ (0xFFF8000000000000, none)
    ∷ []

are_long_binaries : answered long_binary long_binaries ≡ long_binaries
unfolding answered everything
are_long_binaries = refl

abbrev short_hexadecimals : List (ℕ × Option ℕ)
short_hexadecimals =
    (0x00000000, some 0x0000000000000000)
    ∷ (0x80000000, some 0x8000000000000000)
    ∷ (0x7F000000, some 0x0000000000000000)
    ∷ (0xFF000000, some 0x8000000000000000)
    ∷ (0x41100000, some 0x3FF0000000000000)
    ∷ (0xC1100000, some 0xBFF0000000000000)
    ∷ (0x42640000, some 0x4059000000000000)
    ∷ (0xC276A000, some 0xC05DA80000000000)
    ∷ (0x00000001, some 0x2E70000000000000)
    ∷ (0x00100000, some 0x2FB0000000000000)
    ∷ (0x7FFFFFFF, some 0x4FAFFFFFE0000000)
    ∷ []

are_short_hexadecimals : answered short_hexadecimal short_hexadecimals ≡ short_hexadecimals
unfolding answered everything
are_short_hexadecimals = refl

abbrev long_hexadecimals : List (ℕ × Option ℕ)
long_hexadecimals =
    (0x0000000000000000, some 0x0000000000000000)
    ∷ (0x8000000000000000, some 0x8000000000000000)
    ∷ (0x4110000000000000, some 0x3FF0000000000000)
    ∷ (0xC11FFFFFFFFFFFFF, some 0xBFFFFFFFFFFFFFFF)
    ∷ (0x41FFFFFFFFFFFFF8, some 0x402FFFFFFFFFFFFF)
    ∷ (0x4120000000000002, some 0x4000000000000001)
    ∷ (0x4100000000000001, some 0x3CB0000000000000)
    ∷ (0x0000000000000001, some 0x2C70000000000000)
    ∷ (0x7FFFFFFFFFFFFFF8, some 0x4FAFFFFFFFFFFFFF)
    ∷ (0x4120000000000001, none)
    ∷ (0x41FFFFFFFFFFFFFF, none)
    ∷ (0xFFFFFFFFFFFFFFFF, none)
    ∷ (0x4040000000000001, none)
    ∷ []

are_long_hexadecimals : answered long_hexadecimal long_hexadecimals ≡ long_hexadecimals
unfolding answered everything
are_long_hexadecimals = refl
