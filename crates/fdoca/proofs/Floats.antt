-- A number and the 64-bit floats: of all floats at most one equals it, its canonical form; and where there is one.
-- Assumes nothing.
use Rattle.std.specs.Prelude.{if◌then◌else◌}
use mathlib.Core.Path.{◌≡◌, refl, sym, ap, ◌∙◌}
use Prim.Native.Nat.{ℕ, zero, suc, ◌+◌, ◌*◌, ◌/◌, ◌%◌, ◌^◌, ◌<◌, ◌≤◌}
use native.Mathlib.Nat.{pow-suc, zero-lt-suc, zero-mul, one-mul, mul-one, mul_assoc, mul_right_comm, mul-le-mul_left, mul-pos, mul-div_cancel, eq_of_mul-eq-mul_right}
use native.Mathlib.Omega.{arith}
use mathlib.Core.Bool.{Bool, true, false, ◌&&◌}
use mathlib.Core.Option.{Option, some, none}
use lib.Dec.{T, leb, ltb, eqb, eqb→eq, ltb→lt}
use lib.IntN.{ℤ, pos, negsuc}
use lib.Pow.{pow-add, pow_pos}
use lib.Count.{count_trailing_zeros, under}
use lib.Ieee.{Float, nan, inf, fin, binary64, emax, low, up, down, minus, fits, odd, size}
use lib.Ieee.Exact.{HasValue, odd_sign}
use lib.Ieee.Digits.{size-lt, minus_val}
use lib.Ieee.Fits.{and_l, and_r, odd-fits}
use lib.Ieee.Bits.{is_true}
use Rattle.fdoca.specs.Float.{Number, Equal, ups, downs, canonical, equal_float}
use Rattle.fdoca.specs.Reasons.{Over53}

-- WRITTEN IN ONE WAY: with an odd significand, or as a zero with exponent 0

abbrev Written : Float → Type 0
Written nan = ⊥
Written (inf s) = ⊥
Written (fin s zero e) = e ≡ pos 0
Written (fin s (suc m) e) = suc m % 2 ≡ 1

pub doubled : (m a : ℕ) → m * 2 ^ suc a ≡ m * 2 ^ a * 2
doubled m a = rw pow-suc (sym (mul_assoc m (2 ^ a) 2))

-- an odd number times a power of two is so in one way
powers : (m n a b : ℕ) → m % 2 ≡ 1 → n % 2 ≡ 1 → m * 2 ^ a ≡ n * 2 ^ b → (m ≡ n) × (a ≡ b)
powers m n zero zero o p h = (omega arith, refl)
powers m n zero (suc b) o p h = absurd (let z : ⊥ = omega (arith, doubled n b) in z)
powers m n (suc a) zero o p h = absurd (let z : ⊥ = omega (arith, doubled m a) in z)
powers m n (suc a) (suc b) o p h =
    let r = powers m n a b o p (omega (arith, doubled m a, doubled n b)) in
    (r.0, ap suc r.1)

-- an exponent by its two sides
pub up_is : (e : ℤ) → up e ≡ 2 ^ ups e
up_is (pos k) = refl
up_is (negsuc k) = refl

pub down_is : (e : ℤ) → down e ≡ 2 ^ downs e
down_is (pos k) = refl
down_is (negsuc k) = refl

sides : (e g : ℤ) → ups e + downs g ≡ ups g + downs e → e ≡ g
sides (pos a) (pos b) h = ap pos (omega arith)
sides (pos a) (negsuc b) h = absurd (let z : ⊥ = omega arith in z)
sides (negsuc a) (pos b) h = absurd (let z : ⊥ = omega arith in z)
sides (negsuc a) (negsuc b) h = ap negsuc (omega arith)

-- two fractions that equal a third: m * U / D = N / P = n * W / F
crossed : (m U D n W F N P : ℕ) → 0 < P → m * U * P ≡ N * D → n * W * P ≡ N * F → m * (U * F) ≡ n * (W * D)
crossed m U D n W F N P p h k =
    eq_of_mul-eq-mul_right P p (m * (U * F)) (n * (W * D))
    (ap (λ (t : ℕ). t * P) (sym (mul_assoc m U F))
    ∙ mul_right_comm (m * U) F P
    ∙ ap (λ (t : ℕ). t * F) h
    ∙ mul_right_comm N D F
    ∙ ap (λ (t : ℕ). t * D) (sym k)
    ∙ mul_right_comm (n * W) P D
    ∙ ap (λ (t : ℕ). t * P) (mul_assoc n W D))

no_zero : (m a : ℕ) → suc m * 2 ^ a ≡ 0 → ⊥
no_zero m a h = let k : 0 < suc m * 2 ^ a = mul-pos (zero-lt-suc m) (pow_pos a) in omega arith

same : (s t u : Bool) (m n : ℕ) (e g : ℤ) → Written (fin s m e) → Written (fin t n g) → s ≡ u → t ≡ u → m * 2 ^ (ups e + downs g) ≡ n * 2 ^ (ups g + downs e) → fin s m e ≡ fin t n g
same s t u zero zero e g w x p q h = λ i. fin ((p ∙ sym q) i) zero ((w ∙ sym x) i)
same s t u zero (suc n) e g w x p q h = absurd (no_zero n (ups g + downs e) (sym h ∙ zero-mul _))
same s t u (suc m) zero e g w x p q h = absurd (no_zero m (ups e + downs g) (h ∙ zero-mul _))
same s t u (suc m) (suc n) e g w x p q h =
    let r = powers (suc m) (suc n) (ups e + downs g) (ups g + downs e) w x h in
    λ i. fin ((p ∙ sym q) i) (r.0 i) (sides e g r.1 i)

unique : (x y : Float) (s : Bool) (a c : ℕ) → 0 < c → Written x → Written y → HasValue x s a c → HasValue y s a c → x ≡ y
unique (fin s m e) (fin t n g) u a c p w x (h, i) (j, k) =
    let l = crossed m (up e) (down e) n (up g) (down g) a c p i k in
    let A : up e * down g ≡ 2 ^ (ups e + downs g) = rw (pow-add, up_is, down_is) in
    let B : up g * down e ≡ 2 ^ (ups g + downs e) = rw (pow-add, up_is, down_is) in
    same s t u m n e g w x h j (rw (← A, ← B) l)
unique nan y u a c p w x _ _ = elim w [ ]
unique (inf _) y u a c p w x _ _ = elim w [ ]
unique (fin s m e) nan u a c p w x _ _ = elim x [ ]
unique (fin s m e) (inf _) u a c p w x _ _ = elim x [ ]

-- WHAT 64 BITS HOLD is written so, and its significand is below 2 ^ 53

flat : (e : ℤ) → up e * down e ≡ 1 → e ≡ pos 0
flat (pos zero) h = refl
flat (pos (suc k)) h = absurd (let z : ⊥ = omega (arith, pow-suc 2 k) in z)
flat (negsuc k) h = absurd (let z : ⊥ = omega (arith, pow-suc 2 k) in z)

fits_says : (s : Bool) (m : ℕ) (e : ℤ) → T (fits binary64 (fin s (suc m) e)) → (suc m % 2 ≡ 1) × (suc m < 2 ^ 53)
unfolding fits
fits_says s m e t =
    let A = eqb (suc m % 2) 1 in
    let B = ltb (suc m) (2 ^ 53) in
    let C = leb (down e) (2 ^ low binary64) in
    let D = ltb (suc m * up e) (2 ^ suc (emax binary64) * down e) in
    let both : T (A && B) = and_l (A && B) C (and_l (A && B && C) D t) in
    (eqb→eq (suc m % 2) 1 (and_l A B both), ltb→lt (suc m) (2 ^ 53) (and_r A B both))

fits_written : (x : Float) (s : Bool) (a c : ℕ) → T (fits binary64 x) → HasValue x s a c → Written x
fits_written (fin s zero e) t a c f h = flat e (eqb→eq (up e * down e) 1 (unfold fits in f))
fits_written nan t a c f h = elim h [ ]
fits_written (inf _) t a c f h = elim h [ ]
fits_written (fin s (suc m) e) t a c f h = (fits_says s m e f).0

fits_small : (s : Bool) (m : ℕ) (e : ℤ) → T (fits binary64 (fin s m e)) → m < 2 ^ 53
fits_small s zero e t = omega arith
fits_small s (suc m) e t = (fits_says s m e t).1

-- THE CANONICAL FORM is written so

-- a number above 0 is an odd one times 2 to the power of its closing zeros
record OddPart (q t : ℕ) : Type 0 where
  part : ℕ
  is_odd : part % 2 ≡ 1
  whole : q ≡ part * 2 ^ t

odd_part : (d q : ℕ) → 0 < q → q < 2 ^ d → OddPart q (count_trailing_zeros d q)
unfolding count_trailing_zeros
odd_part zero q h k = absurd (let z : ⊥ = omega arith in z)
odd_part (suc d) q h k = go (q % 2) refl (λ l. odd_part d (q / 2) l (omega (arith, pow-suc 2 d)))
  where
    go : (r : ℕ) → q % 2 ≡ r → (0 < q / 2 → OddPart (q / 2) (count_trailing_zeros d (q / 2))) → OddPart q (under r (count_trailing_zeros d (q / 2)))
    go zero e half =
        let x = half (omega arith) in
        record { part = x.part; is_odd = x.is_odd; whole = omega (arith, x.whole, doubled x.part (count_trailing_zeros d (q / 2))) }
    go (suc r) e half = record { part = q; is_odd = omega arith; whole = omega arith }

without_zeros : (d q : ℕ) → 0 < q → q < 2 ^ d → q / 2 ^ count_trailing_zeros d q % 2 ≡ 1
without_zeros d q h k =
    let x = odd_part d q h k in
    let t = count_trailing_zeros d q in
    ap (λ n. n / 2 ^ t % 2) x.whole ∙ ap (λ n. n % 2) (mul-div_cancel x.part (pow_pos t)) ∙ x.is_odd

odd_form : (s : Bool) (m : ℕ) (e : ℤ) → m % 2 ≡ 1 → Written (fin s m e)
odd_form s zero e o = absurd (let z : ⊥ = omega arith in z)
odd_form s (suc m) e o = o

odd_written : (d : ℕ) (s : Bool) (q k l : ℕ) → q < 2 ^ d → Written (odd d s q k l)
unfolding odd
odd_written d s zero k l b = refl
odd_written d s (suc q) k l b = odd_form s _ _ (without_zeros d (suc q) (zero-lt-suc q) b)

canonical_written : (n : Number) → Written (canonical n)
unfolding canonical
canonical_written n = odd_written _ _ n.m (ups n.e) (downs n.e) (size-lt n.m)

-- EQUALITY, as a fraction of two whole numbers

abbrev pub Worth : Float → Number → Type 0
Worth v n = HasValue v n.negative (n.m * up n.e) (down n.e)

pub to_equal : (v : Float) (n : Number) → Worth v n → Equal v n
unfolding Equal
to_equal nan n h = h
to_equal (inf s) n h = h
to_equal (fin s m e) n h = h

pub from_equal : (v : Float) (n : Number) → Equal v n → Worth v n
unfolding Equal
from_equal nan n h = h
from_equal (inf s) n h = h
from_equal (fin s m e) n h = h

canonical_worth : (n : Number) → Worth (canonical n) n
unfolding canonical
canonical_worth n = rw (up_is, down_is) (odd_sign (size n.m) n.negative n.m (ups n.e) (downs n.e))

down_above : (e : ℤ) → 0 < down e
down_above e = rw down_is (pow_pos (downs e))

-- The canonical form equals the number,
pub canonical_equal : (n : Number) → Equal (canonical n) n
canonical_equal n = to_equal (canonical n) n (canonical_worth n)

-- and no other 64-bit float does.
pub only_canonical : (n : Number) (x : Float) → T (fits binary64 x) → Equal x n → x ≡ canonical n
only_canonical n x f h =
    let v = from_equal x n h in
    unique x (canonical n) n.negative (n.m * up n.e) (down n.e) (down_above n.e) (fits_written x _ _ _ f v) (canonical_written n) v (canonical_worth n)

-- `equal_float` is the one 64-bit float that equals the number, where there is one.
pub equal_float_is : (n : Number) (v : Float) → equal_float n ≡ some v → T (fits binary64 v) × Equal v n
unfolding equal_float
equal_float_is n v = go (fits binary64 (canonical n)) refl
  where
    go : (b : Bool) → fits binary64 (canonical n) ≡ b → (if b then some (canonical n) else none) ≡ some v → T (fits binary64 v) × Equal v n
    go true e h = let q : canonical n ≡ v = cc in rw (← q) (rw e tt, canonical_equal n)
    go false e h = absurd (let z : ◌≡◌ {A = ℕ} 0 1 = cc in let w : ⊥ = omega arith in w)

pub is_equal_float : (n : Number) (v : Float) → T (fits binary64 v) → Equal v n → equal_float n ≡ some v
unfolding equal_float
is_equal_float n v f h =
    let e = only_canonical n v f h in
    rw (← e, is_true (fits binary64 v) f)

pub no_equal_float : (n : Number) → ((x : Float) → T (fits binary64 x) → Equal x n → ⊥) → equal_float n ≡ none
no_equal_float n h = go (equal_float n) refl
  where
    go : (o : Option Float) → equal_float n ≡ o → o ≡ none
    go none e = refl
    go (some v) e = let (f, q) = equal_float_is n v e in absurd (h v f q)

pub none_equals : (n : Number) → equal_float n ≡ none → (x : Float) → T (fits binary64 x) → Equal x n → ⊥
none_equals n e x f h = let k = is_equal_float n x f h in let z : ◌≡◌ {A = ℕ} 0 1 = cc in omega arith

-- WHERE THERE IS ONE: where the number is a q below 2 ^ 53 times a power of two, in the range

-- a / c = b / d, where x has the value a / c
rescaled : (x : Float) (s : Bool) (a c b d : ℕ) → 0 < c → a * d ≡ b * c → HasValue x s a c → HasValue x s b d
rescaled (fin t m e) s a c b d p h (v, w) =
    let k : b * 1 * c ≡ a * d = rw mul-one (sym h) in
    (v, mul_assoc m (up e) d ∙ crossed m (up e) (down e) b 1 d a c p w k ∙ ap (λ n. b * n) (one-mul (down e)))
rescaled nan s a c b d p h x4 = elim x4 [ ]
rescaled (inf _) s a c b d p h x6 = elim x6 [ ]

-- m times 2 to the a - l is m * 2 ^ p / 2 ^ 1074
module _ (s : Bool) (m a l p : ℕ) (at : p + l ≡ a + 1074) where
  abbrev pub number : Number
  number = record { negative = s; m = m; e = minus a l }

  over_1074 : m * 2 ^ p * down (minus a l) ≡ m * up (minus a l) * 2 ^ 1074
  over_1074 =
      let D = down (minus a l) in
      let U = up (minus a l) in
      eq_of_mul-eq-mul_right (2 ^ l) (pow_pos l) (m * 2 ^ p * D) (m * U * 2 ^ 1074)
      (mul_right_comm (m * 2 ^ p) D (2 ^ l)
      ∙ ap (λ (x : ℕ). x * D) (mul_assoc m (2 ^ p) (2 ^ l) ∙ ap (λ (x : ℕ). m * x) (sym (pow-add 2 p l) ∙ ap (λ (x : ℕ). 2 ^ x) at ∙ pow-add 2 a 1074) ∙ sym (mul_assoc m (2 ^ a) (2 ^ 1074)))
      ∙ mul_right_comm (m * 2 ^ a) (2 ^ 1074) D
      ∙ ap (λ (x : ℕ). x * 2 ^ 1074) (sym (minus_val m a l))
      ∙ mul_right_comm (m * U) (2 ^ l) (2 ^ 1074))

  -- a float of that value
  pub worth_over : (v : Float) → HasValue v s (m * 2 ^ p) (2 ^ 1074) → Equal v number
  worth_over v h = to_equal v number (rescaled v s (m * 2 ^ p) (2 ^ 1074) (m * up (minus a l)) (down (minus a l)) (pow_pos 1074) over_1074 h)

  -- there is one where m is a q below 2 ^ 53 times a power of two,
  pub has_float : (q j : ℕ) → q < 2 ^ 53 → m ≡ q * 2 ^ j → m * 2 ^ p < 2 ^ 2098 → (v : Float) × (equal_float number ≡ some v)
  has_float q j small e high =
      let v = odd 53 s q (j + p) 1074 in
      let k : q * 2 ^ (j + p) ≡ m * 2 ^ p = rw (pow-add, e) (sym (mul_assoc q (2 ^ j) (2 ^ p))) in
      (v, is_equal_float number v (odd-fits binary64 53 s q (j + p) small (omega arith) (rw k high)) (worth_over v (rw k at (odd_sign 53 s q (j + p) 1074))))

-- and there alone
not_over : (t m a b : ℕ) → t * 2 ^ a ≡ m * 2 ^ b → m < 2 ^ 53 → Over53 t → ⊥
not_over t m zero b e l o = let k : t ≡ m * 2 ^ b = omega arith in let z : ⊥ = omega (arith, o m b k) in z
not_over t m (suc a) zero e l o =
    let k : t * 1 ≤ t * 2 ^ suc a = mul-le-mul_left t (pow_pos (suc a)) in
    let h : t ≡ t * 1 = omega arith in
    let z : ⊥ = omega (arith, o t 0 h) in z
not_over t m (suc a) (suc b) e l o = not_over t m a b (omega (arith, doubled t a, doubled m b)) l o

pub over_none : (n : Number) → Over53 n.m → equal_float n ≡ none
over_none n o = no_equal_float n (λ x f h. go x f (from_equal x n h))
  where
    go : (x : Float) → T (fits binary64 x) → Worth x n → ⊥
    go (fin s m e) f (_, h) =
        let E = n.e in
        let A : up E * down e ≡ 2 ^ (ups E + downs e) = rw (pow-add, up_is, down_is) in
        let B : up e * down E ≡ 2 ^ (ups e + downs E) = rw (pow-add, up_is, down_is) in
        not_over n.m m (ups E + downs e) (ups e + downs E)
        (rw (← A, ← B) (sym (mul_assoc n.m (up E) (down e)) ∙ sym h ∙ mul_assoc m (up e) (down E)))
        (fits_small s m e f) o
    go nan f x3 = elim x3 [ ]
    go (inf _) f x5 = elim x5 [ ]
