-- The ways through the other functions.
-- Assumes nothing.
use Rattle.std.specs.Prelude.{Some, None, if◌then◌else◌}
use Rattle.std.specs.Prelude as given
use mathlib.Core.Path.{◌≡◌, refl, sym, ap, ◌∙◌, subst}
use Prim.Native.Nat.{ℕ, zero, suc, ◌+◌, ◌-◌, ◌*◌, ◌/◌, ◌%◌, ◌^◌, ◌<◌, ◌≤◌}
use native.Mathlib.Nat.{zero-mul, mul_assoc, mul-le-mul_left}
use native.Mathlib.Omega.{arith}
use mathlib.Core.Bool.{Bool, true, false, not}
use lib.Dec.{T, leb, eqb}
use lib.Ieee.{Float, binary64, minus, of_bits, of_fields, nan_bits}
use lib.Ieee.Exact.{HasValue}
use borrow.Author.Tests.{le-leb, lt-leb, eq-eqb, ne_eqb, eqb-false}
use lib.Pow.{pow-add, pow_pos}
use Rattle.fdoca.specs.Float.{Equal, equal_float, Format, format, two, sixteen, short_hexadecimal, long_hexadecimal, short_binary, long_binary, is_negative, characteristic, fraction, number_of, float_of}
use Rattle.fdoca.proofs.Tests.{at_least}
use Rattle.fdoca.proofs.Floats.{doubled, is_equal_float, number, worth_over, over_none}
use Rattle.fdoca.proofs.FloatForms.{above_maximum, is_float, fields_value, fields_fit}
use Rattle.fdoca.proofs.FloatForms as forms
use Rattle.fdoca.specs.Returned.{option_of}
use Rattle.floats.specs.declared.Scaled.{Scaled}
use Rattle.floats.specs.Reals.{Units, Hexadecimal, exact, over, Narrow, significand_by, power_by, Binary, in_range, above}

-- THE PATTERN of a sign, a characteristic and a fraction
module _ (s : Bool) (x t b : ℕ) (sign : leb (2 ^ 63) b ≡ s) (field : b % 2 ^ 63 / 2 ^ 52 ≡ x) (digits : b % 2 ^ 52 ≡ t) where
  pattern_is : of_bits binary64 b ≡ of_fields binary64 s x t
  unfolding of_bits
  pattern_is = rw (sign, field, digits)

  no_nan : x ≤ 2046 → T (not (nan_bits binary64 b))
  unfolding nan_bits
  no_nan l = rw (ne_eqb (b % 2 ^ 63 / 2 ^ 52) 2047 (λ z. omega arith)) tt

module _ (x t : ℕ) (l : x ≤ 2046) (h : t < 2 ^ 52) where
  plus_sign : leb (2 ^ 63) (x * 2 ^ 52 + t) ≡ false
  plus_sign = let k : x * 2 ^ 52 + t < 2 ^ 63 = omega arith in lt-leb _ _ k

  minus_sign : leb (2 ^ 63) (2 ^ 63 + (x * 2 ^ 52 + t)) ≡ true
  minus_sign = let k : 2 ^ 63 ≤ 2 ^ 63 + (x * 2 ^ 52 + t) = omega arith in le-leb _ _ k

  pub plus_no_nan : T (not (nan_bits binary64 (x * 2 ^ 52 + t)))
  plus_no_nan = no_nan false x t _ plus_sign (omega arith) (omega arith) l

  pub plus_pattern : (s : Bool) → s ≡ false → of_bits binary64 (x * 2 ^ 52 + t) ≡ of_fields binary64 s x t
  plus_pattern s e = rw e (pattern_is false x t _ plus_sign (omega arith) (omega arith))

  pub minus_no_nan : T (not (nan_bits binary64 (2 ^ 63 + (x * 2 ^ 52 + t))))
  minus_no_nan = no_nan true x t _ minus_sign (omega arith) (omega arith) l

  pub minus_pattern : (s : Bool) → s ≡ true → of_bits binary64 (2 ^ 63 + (x * 2 ^ 52 + t)) ≡ of_fields binary64 s x t
  minus_pattern s e = rw e (pattern_is true x t _ minus_sign (omega arith) (omega arith))

-- THE SCALED SIGNIFICAND
module _ (s : Bool) (m p : ℕ) where
  units : (x t : ℕ) → x ≤ 2046 → t < 2 ^ 52 → HasValue (of_fields binary64 s x t) s (m * 2 ^ p) (2 ^ 1074) → Units (of_fields binary64 s x t) s m p
  units x t l h w = record { worth = w; held = fields_fit s x t l h }

  pub units_zero : (v : Float) → m ≡ 0 → v ≡ of_fields binary64 s 0 0 → Units v s m p
  units_zero v z e =
      let k : 0 * 2 ^ 0 ≡ m * 2 ^ p = zero-mul (2 ^ 0) ∙ sym (rw z (zero-mul (2 ^ p))) in
      rw e (units 0 0 (omega arith) (omega arith) (subst (λ (n : ℕ). HasValue (of_fields binary64 s 0 0) s n (2 ^ 1074)) k (fields_value s 0 0 (omega arith))))

  module _ (q r : ℕ) (same : q * 2 ^ r ≡ m * 2 ^ p) (low : r ≤ p) (range : p ≤ 2045) where
    pub units_small : (v : Float) → q < 2 ^ 52 → (q < 2 ^ 52 → r ≡ 0) → v ≡ of_fields binary64 s 0 q → Units v s m p
    units_small v l z e =
        let k : q * 2 ^ 0 ≡ m * 2 ^ p = rw (z l) at same in
        rw e (units 0 q (omega arith) l (subst (λ (n : ℕ). HasValue (of_fields binary64 s 0 q) s n (2 ^ 1074)) k (fields_value s 0 q (omega arith))))

    pub units_normal : (v : Float) → 2 ^ 52 ≤ q → q < 2 ^ 53 → v ≡ of_fields binary64 s (r + 1) (q - 2 ^ 52) → Units v s m p
    units_normal v l h e =
        let x : r + 1 ≤ 2046 = omega arith in
        let n : eqb (r + 1) 0 ≡ false = ne_eqb (r + 1) 0 (λ z. omega arith) in
        let a : 2 ^ 52 + (q - 2 ^ 52) ≡ q = omega arith in
        let b : r + 1 - 1 ≡ r = omega arith in
        let w : HasValue (of_fields binary64 s (r + 1) (q - 2 ^ 52)) s (q * 2 ^ r) (2 ^ 1074) = rw (n, a, b) at (fields_value s (r + 1) (q - 2 ^ 52) x) in
        rw e (units (r + 1) (q - 2 ^ 52) x (omega arith) (rw same at w))

-- BINARY
module _ (v : Float) (s : Bool) (c t h m p : ℕ) (x : Scaled) (l : c ≤ m) (u : Units v s x.significand x.power) where
  pub low : c ≡ 0 → x ≡ record { significand = t; power = p } → Binary s c t h m p (Some v)
  low e w = in_range l (rw (eq-eqb c 0 e) (rw w at u))

  pub high : (c ≡ 0 → ⊥) → x ≡ record { significand = h + t; power = p + c - 1 } → Binary s c t h m p (Some v)
  high n w = in_range l (rw (ne_eqb c 0 n) (rw w at u))

equal_binary : (v : Float) (s : Bool) (c t h l p : ℕ) → p + l ≡ 1075 → Units v s (significand_by h c t) (power_by p c)
    → Equal v (if eqb c 0 then record { negative = s; m = t; e = minus 1 l } else record { negative = s; m = h + t; e = minus c l })
equal_binary v s c t h l p at = go (eqb c 0) refl
  where
    go : (b : Bool) → eqb c 0 ≡ b → Units v s (if b then t else h + t) (if b then p else p + c - 1)
        → Equal v (if b then record { negative = s; m = t; e = minus 1 l } else record { negative = s; m = h + t; e = minus c l })
    go true e u = worth_over s t 1 l p (omega arith) v u.worth
    go false e u = worth_over s (h + t) c l (p + c - 1) (let k = eqb-false c 0 e in omega (arith, k)) v u.worth

module _ (cb fb bias m bits p : ℕ) (at : p + (bias + fb) ≡ 1075) where
  abbrev f : Format
  f = format two cb fb bias m

  two_way : {x : given.Option Float} → Binary (is_negative f bits) (characteristic f bits) (fraction f bits) (2 ^ fb) m p x → x ≡ option_of (float_of f bits)
  unfolding number_of
  two_way (in_range {v = v} h u) = ap option_of (sym (is_float f bits v h u.held (equal_binary v _ _ _ (2 ^ fb) (bias + fb) p at u)))
  two_way (above h) = ap option_of (sym (above_maximum f bits h))

module _ (bits : ℕ) (x : given.Option Float) where
  pub short_two : Binary (leb (2 ^ 31) bits) (bits % 2 ^ 31 / 2 ^ 23) (bits % 2 ^ 23) (2 ^ 23) 254 925 x → x ≡ option_of (float_of short_binary bits)
  unfolding is_negative characteristic fraction
  short_two b = two_way 8 23 127 254 bits 925 (omega arith) b

  pub long_two : Binary (leb (2 ^ 63) bits) (bits % 2 ^ 63 / 2 ^ 52) (bits % 2 ^ 52) (2 ^ 52) 2046 0 x → x ≡ option_of (float_of long_binary bits)
  unfolding is_negative characteristic fraction
  long_two b = two_way 11 52 1023 2046 bits 0 (omega arith) b

-- HEXADECIMAL: an odd number is no smaller number times a power of two, at any scale
odd_least : (m q a b : ℕ) → m < q → q % 2 ≡ 1 → m * 2 ^ a ≡ q * 2 ^ b → ⊥
odd_least m q zero b l o e =
    let k : q * 1 ≤ q * 2 ^ b = mul-le-mul_left q (pow_pos b) in
    let z : ⊥ = omega arith in z
odd_least m q (suc a) zero l o e = omega (arith, doubled m a)
odd_least m q (suc a) (suc b) l o e = odd_least m q a b l o (omega (arith, doubled m a, doubled q b))

module _ (s : Bool) (m p q r : ℕ) (same : q * 2 ^ r ≡ m * 2 ^ p) where
  pub too_long_lem : Narrow q → 2 ^ 53 ≤ q → Hexadecimal s m p None
  too_long_lem n l = over (λ a b h. at_least (2 ^ 53) a (λ k. odd_least a q (b + p) r (omega arith) (n l) (rw (pow-add, ← mul_assoc, ← h) (sym same))))

  pub short_enough : (v : Float) → Units v s q r → Hexadecimal s m p (Some v)
  short_enough v u = exact (record { worth = rw same at u.worth; held = u.held })

exactly : (s : Bool) (m a l p : ℕ) (at : p + l ≡ a + 1074) {x : given.Option Float} → Hexadecimal s m p x → x ≡ option_of (equal_float (number s m a l p at))
exactly s m a l p at (exact {v = v} u) = ap option_of (sym (is_equal_float (number s m a l p at) v u.held (worth_over s m a l p at v u.worth)))
exactly s m a l p at (over o) = ap option_of (sym (over_none (number s m a l p at) o))

module _ (cb fb bias m bits k : ℕ) (at : k + (4 * bias + fb) ≡ 1074) where
  abbrev g : Format
  g = format sixteen cb fb bias m

  sixteen_way : characteristic g bits ≤ m → {x : given.Option Float} → Hexadecimal (is_negative g bits) (fraction g bits) (4 * characteristic g bits + k) x
      → x ≡ option_of (float_of g bits)
  unfolding number_of
  sixteen_way l h =
      exactly (is_negative g bits) (fraction g bits) (4 * characteristic g bits) (4 * bias + fb) (4 * characteristic g bits + k) (omega arith) h
      ∙ ap option_of (sym (forms.in_range g bits l))

module _ (bits : ℕ) (x : given.Option Float) where
  pub short_sixteen : Hexadecimal (leb (2 ^ 31) bits) (bits % 2 ^ 24) (4 * (bits % 2 ^ 31 / 2 ^ 24) + 794) x → x ≡ option_of (float_of short_hexadecimal bits)
  unfolding is_negative characteristic fraction
  short_sixteen h = sixteen_way 7 24 64 127 bits 794 (omega arith) (omega arith) h

  pub long_sixteen : Hexadecimal (leb (2 ^ 63) bits) (bits % 2 ^ 56) (4 * (bits % 2 ^ 63 / 2 ^ 56) + 762) x → x ≡ option_of (float_of long_hexadecimal bits)
  unfolding is_negative characteristic fraction
  long_sixteen h = sixteen_way 7 56 64 127 bits 762 (omega arith) (omega arith) h
