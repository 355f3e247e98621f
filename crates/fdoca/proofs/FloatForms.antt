-- The four formats: which bits have a 64-bit float, and what it is.
-- Assumes nothing.
use Rattle.std.specs.Prelude.{if◌then◌else◌}
use mathlib.Core.Path.{◌≡◌, refl, sym, ◌∙◌, subst}
use Prim.Native.Nat.{ℕ, zero, suc, ◌+◌, ◌-◌, ◌*◌, ◌/◌, ◌%◌, ◌^◌, ◌<◌, ◌≤◌}
use native.Mathlib.Nat.{mul-one, lt_of_lt_of_le}
use native.Mathlib.Omega.{arith}
use mathlib.Core.Bool.{Bool, true, false, not}
use mathlib.Core.Option.{Option, some, none}
use lib.Dec.{T, ltb, eqb, eqb-suc-zero}
use lib.Pow.{pow_mono, shl_lt}
use lib.IntN.{pos}
use lib.Ieee.{Float, fin, binary64, fits, odd, of_bits, of_fields, to_bits, nan_bits, minus}
use lib.Ieee.Exact.{HasValue, odd_sign}
use lib.Ieee.Fits.{odd-fits}
use lib.Ieee.Bits.{of_bits-fits, nan_bits_is, to_bits-of_bits}
use borrow.Author.Tests.{lt-ltb, le-ltb, ltb-true, ltb-false, ne_eqb, eqb-false}
use Rattle.fdoca.specs.Float.{Equal, equal_float, Format, short_hexadecimal, long_hexadecimal, short_binary, long_binary, is_negative, characteristic, fraction, binary, number_of, float_of}
use Rattle.fdoca.specs.Reasons.{Over53}
use Rattle.fdoca.proofs.Tests.{by_eq, at_least}
use Rattle.fdoca.proofs.Floats.{is_equal_float, equal_float_is, worth_over, has_float, over_none}

-- what is below 2 ^ 53, times a power that is not too high, is in the range of 64-bit floats
in_reach : (i p : ℕ) {q : ℕ} → q < 2 ^ i → i + p ≤ 2098 → q * 2 ^ p < 2 ^ 2098
in_reach i p l h = lt_of_lt_of_le (shl_lt i p l) (pow_mono h)

abbrev Some : Option Float → Type 0
Some o = (v : Float) × (o ≡ some v)

once : (m : ℕ) → m ≡ m * 2 ^ 0
once m = sym (mul-one m)

-- the float of bits whose characteristic is in range
pub in_range : (f : Format) (bits : ℕ) → characteristic f bits ≤ f.maximum → float_of f bits ≡ equal_float (number_of f bits)
unfolding float_of
in_range f bits h = rw (le-ltb _ _ h)

pub above_maximum : (f : Format) (bits : ℕ) → f.maximum < characteristic f bits → float_of f bits ≡ none
unfolding float_of
above_maximum f bits h = rw (lt-ltb _ _ h)

-- ALL OF THEM: a float that is given is the one of 64 bits that equals the number, and the characteristic is in range.
pub float_is : (f : Format) (bits : ℕ) (v : Float) → float_of f bits ≡ some v → (characteristic f bits ≤ f.maximum) × T (fits binary64 v) × Equal v (number_of f bits)
float_is f bits v e = go (ltb f.maximum (characteristic f bits)) refl
  where
    go : (b : Bool) → ltb f.maximum (characteristic f bits) ≡ b → (characteristic f bits ≤ f.maximum) × T (fits binary64 v) × Equal v (number_of f bits)
    go true x =
        let y : none ≡ some v = sym (above_maximum f bits (ltb-true _ _ x)) ∙ e in
        absurd (let z : ◌≡◌ {A = ℕ} 0 1 = cc in let w : ⊥ = omega arith in w)
    go false x =
        let h = ltb-false _ _ x in
        let (t, q) = equal_float_is (number_of f bits) v (sym (in_range f bits h) ∙ e) in
        (h, t, q)

pub is_float : (f : Format) (bits : ℕ) (v : Float) → characteristic f bits ≤ f.maximum → T (fits binary64 v) → Equal v (number_of f bits) → float_of f bits ≡ some v
is_float f bits v h t e = in_range f bits h ∙ is_equal_float (number_of f bits) v t e

-- THE BITS of a 64-bit float: those of the literal 0.0;
pub zero_is : of_bits binary64 0 ≡ fin false 0 (pos 0)
unfolding of_bits of_fields odd
zero_is = refl

-- three fields with the characteristic in range
pub fields_value : (s : Bool) (x t : ℕ) → x ≤ 2046 → HasValue (of_fields binary64 s x t) s (if eqb x 0 then t * 2 ^ 0 else (2 ^ 52 + t) * 2 ^ (x - 1)) (2 ^ 1074)
unfolding of_fields
fields_value s zero t l = odd_sign 53 s t 0 1074
fields_value s (suc x) t l =
    let p : suc x - 1 ≡ x = omega arith in
    rw (p, ne_eqb (suc x) 2047 (λ h. omega arith), eqb-suc-zero) (odd_sign 53 s (2 ^ 52 + t) x 1074)

pub fields_fit : (s : Bool) (x t : ℕ) → x ≤ 2046 → t < 2 ^ 52 → T (fits binary64 (of_fields binary64 s x t))
unfolding of_fields
fields_fit s zero t l h = let k : t < 2 ^ 53 = omega arith in odd-fits binary64 53 s t 0 k (omega arith) (in_reach 53 0 k (omega arith))
fields_fit s (suc x) t l h =
    let k : 2 ^ 52 + t < 2 ^ 53 = omega arith in
    rw (ne_eqb (suc x) 2047 (λ h. omega arith)) (odd-fits binary64 53 s (2 ^ 52 + t) x k (omega arith) (in_reach 53 x k (omega arith)))

-- stand for the number of a long binary float
fields_equal : (s : Bool) (x t : ℕ) → x ≤ 2046 → Equal (of_fields binary64 s x t) (binary long_binary s x t)
fields_equal s x t l = go (eqb x 0) refl (fields_value s x t l)
  where
    v : Float
    v = of_fields binary64 s x t

    go : (b : Bool) → eqb x 0 ≡ b → HasValue v s (if b then t * 2 ^ 0 else (2 ^ 52 + t) * 2 ^ (x - 1)) (2 ^ 1074)
        → Equal v (if b then record { negative = s; m = t; e = minus 1 1075 } else record { negative = s; m = 2 ^ 52 + t; e = minus x 1075 })
    go true e h = worth_over s t 1 1075 0 (omega arith) v h
    go false e h = worth_over s (2 ^ 52 + t) x 1075 (x - 1) (let z : x ≡ 0 → ⊥ = eqb-false x 0 e in omega (arith, z)) v h

as_fields : (bits : ℕ) → characteristic long_binary bits ≤ 2046 → Equal (of_bits binary64 bits) (number_of long_binary bits)
unfolding of_bits number_of is_negative characteristic fraction
as_fields bits h = fields_equal _ _ _ h

no_nan : (bits : ℕ) → characteristic long_binary bits ≤ 2046 → T (not (nan_bits binary64 bits))
unfolding characteristic nan_bits
no_nan bits h = rw (ne_eqb (bits % 2 ^ 63 / 2 ^ 52) 2047 (λ z. omega arith)) tt

-- so a long binary float has the bits that came.
pub bits_back : (bits : ℕ) (v : Float) → bits < 2 ^ 64 → float_of long_binary bits ≡ some v → to_bits binary64 v ≡ bits
bits_back bits v l e =
    let (h, _, _) = float_is long_binary bits v e in
    let w = of_bits binary64 bits in
    let g : float_of long_binary bits ≡ some w = is_float long_binary bits w h (of_bits-fits binary64 bits) (as_fields bits h) in
    let same : v ≡ w = let x : some v ≡ some w = sym e ∙ g in cc in
    rw same (to_bits-of_bits binary64 bits (omega arith) (subst (λ (x : Bool). T (not x)) (nan_bits_is binary64 bits) (no_nan bits h)))

-- BINARY: d bits of fraction; p is the power of 2 ^ -1074 that a characteristic of 1 has
module _ (s : Bool) (c t d l p : ℕ) (at : p + l ≡ 1075) (few : d ≤ 52) (digits : t < 2 ^ d) (range : c + p ≤ 2046) where
  hidden : 2 ^ d ≤ 2 ^ 52
  hidden = pow_mono few

  below : t < 2 ^ 53
  below = omega (arith, hidden)

  below_too : 2 ^ d + t < 2 ^ 53
  below_too = omega (arith, hidden)

  in_binary : Some (equal_float (if eqb c 0 then record { negative = s; m = t; e = minus 1 l } else record { negative = s; m = 2 ^ d + t; e = minus c l }))
  in_binary =
      by_eq (λ n. Some (equal_float n)) c 0
      (λ z. has_float s t 1 l p (omega arith) t 0 below (once t) (in_reach 53 p below (omega arith)))
      (λ z. let a : c + p - 1 + l ≡ c + 1074 = omega arith in
      has_float s (2 ^ d + t) c l (c + p - 1) a (2 ^ d + t) 0 below_too (once (2 ^ d + t)) (in_reach 53 (c + p - 1) below_too (omega arith)))

pub long_binary_lem : (bits : ℕ) → characteristic long_binary bits ≤ long_binary.maximum → Some (float_of long_binary bits)
unfolding number_of fraction
long_binary_lem bits h =
    let l = long_binary.bias + long_binary.fraction_bits in
    let (v, e) = in_binary (is_negative long_binary bits) (characteristic long_binary bits) (bits % 2 ^ 52) 52 l (1075 - l) (omega arith) (omega arith) (omega arith) (omega arith) in
    (v, in_range long_binary bits h ∙ e)

pub short_binary_lem : (bits : ℕ) → characteristic short_binary bits ≤ short_binary.maximum → Some (float_of short_binary bits)
unfolding number_of fraction
short_binary_lem bits h =
    let l = short_binary.bias + short_binary.fraction_bits in
    let (v, e) = in_binary (is_negative short_binary bits) (characteristic short_binary bits) (bits % 2 ^ 23) 23 l (1075 - l) (omega arith) (omega arith) (omega arith) (omega arith) in
    (v, in_range short_binary bits h ∙ e)

-- HEXADECIMAL: a characteristic of 7 bits is never above the maximum
short_seven : (bits : ℕ) → characteristic short_hexadecimal bits ≤ 127
unfolding characteristic
short_seven bits = omega arith

long_seven : (bits : ℕ) → characteristic long_hexadecimal bits ≤ 127
unfolding characteristic
long_seven bits = omega arith

pub short_hexadecimal_lem : (bits : ℕ) → Some (float_of short_hexadecimal bits)
unfolding number_of fraction
short_hexadecimal_lem bits =
    let s = is_negative short_hexadecimal bits in
    let c = characteristic short_hexadecimal bits in
    let t = bits % 2 ^ 24 in
    let l : t < 2 ^ 24 = omega arith in
    let h : c ≤ 127 = short_seven bits in
    let (v, e) = has_float s t (4 * c) 280 (4 * c + 794) (omega arith) t 0 (omega arith) (once t) (in_reach 24 (4 * c + 794) l (omega arith)) in
    (v, in_range short_hexadecimal bits h ∙ e)

-- A long one has none exactly where its fraction has more than 53 significant bits.
pub long_over : (bits : ℕ) → Over53 (bits % 2 ^ 56) → float_of long_hexadecimal bits ≡ none
unfolding number_of fraction
long_over bits o = in_range long_hexadecimal bits (long_seven bits) ∙ over_none (number_of long_hexadecimal bits) o

pub long_none : (bits : ℕ) → float_of long_hexadecimal bits ≡ none → Over53 (bits % 2 ^ 56)
unfolding number_of fraction
long_none bits n q r e =
    let s = is_negative long_hexadecimal bits in
    let c = characteristic long_hexadecimal bits in
    let t = bits % 2 ^ 56 in
    let l : t < 2 ^ 56 = omega arith in
    let h : c ≤ 127 = long_seven bits in
    at_least (2 ^ 53) q (λ k. let (v, g) = has_float s t (4 * c) 312 (4 * c + 762) (omega arith) q r k e (in_reach 56 (4 * c + 762) l (omega arith)) in
    let x : some v ≡ none = sym g ∙ sym (in_range long_hexadecimal bits h) ∙ n in
    let z : ◌≡◌ {A = ℕ} 0 1 = cc in
    let w : ⊥ = omega arith in w)
