-- Half of the numbers of a width, and two's complement by it, at every width.
-- Assumes nothing.
use mathlib.Core.Path.{◌≡◌, refl, sym, ◌∙◌, ap}
use Prim.Native.Nat.{ℕ, zero, suc, ◌-◌, ◌*◌, ◌<◌, ◌≤◌, ◌^◌}
use native.Mathlib.Nat.{pow-le-pow_right, zero-add, not-suc-le-zero}
use native.Mathlib.Omega.{arith}
use mathlib.Core.List.{List}
use lib.Dec.{lit<}
use lib.IntN.{ℤ, pos, negsuc, ◌-ℤ◌}
use lib.ListN.{length}
use mir.Syntax.{w64}
use mir.Val.{Fits, SFits, to_z, of_z}
use mir.ValLaws.{to_z-of_z}
use borrow.Author.Tests.{lt-ltb, le-ltb}
use Rattle.fdoca.specs.Basics.{big}
use Rattle.fdoca.specs.Calls.{signed}
use Rattle.fdoca.proofs.Tests.{by_lt}
use Rattle.numbers.specs.Whole.{twos}

-- half of the numbers, as 128 times those of a byte less
below_eight : (w : ℕ) → w ≤ 8 → 256 ^ (w - 1) ≤ 256 ^ 7
below_eight w l = let k : w - 1 ≤ 7 = omega arith in pow-le-pow_right (lit< tt) k

pub half_room : (w : ℕ) → w ≤ 8 → 256 ^ (w - 1) < 18446744073709551616
half_room w l = omega (arith, below_eight w l)

pub half_times : (w n : ℕ) → w ≤ 8 → n ≡ 256 ^ (w - 1) → Fits w64 (128 * n)
half_times w n l e = record { fits = omega (arith, below_eight w l) }

pub half_fits : (h w : ℕ) → w ≤ 8 → 2 * h ≡ 256 ^ w → h ≤ 9223372036854775808
half_fits h w f e = let q : 256 ^ w ≤ 256 ^ 8 = pow-le-pow_right (lit< tt) f in omega arith

pub half_above : (n h w : ℕ) → n < 256 ^ w → 2 * h ≡ 256 ^ w → n < 2 * h
half_above n h w l e = omega arith

-- a less b, below zero
pub below : (a b : ℕ) → a < b → pos a -ℤ pos b ≡ negsuc (b - suc a)
below a zero l = absurd (not-suc-le-zero l)
below a (suc b) l = simp (lt-ltb a (suc b) l)

-- -1 less k
less_one : (k : ℕ) → negsuc 0 -ℤ pos k ≡ negsuc k
less_one zero = refl
less_one (suc k) = ap (λ (n : ℕ). negsuc (suc n)) (zero-add k)

pub plain : (n : ℕ) → n < 2 ^ 63 → to_z w64 n ≡ pos n
plain n l = simp (lt-ltb n (2 ^ 63) l)

-- the ways through `complement`
module _ (n h : ℕ) (small : h ≤ 9223372036854775808) where
  pub plus : n < h → to_z w64 n ≡ twos h n
  unfolding twos
  plus l = rw (lt-ltb n h l) (plain n (omega arith))

  value : h ≤ n → n < 2 * h → negsuc 0 -ℤ to_z w64 (h - 1 - (n - h)) ≡ negsuc (h - 1 - (n - h))
  value l t = rw (plain (h - 1 - (n - h)) (omega arith)) (less_one _)

  pub minus_fits : h ≤ n → n < 2 * h → SFits w64 (negsuc 0 -ℤ to_z w64 (h - 1 - (n - h)))
  minus_fits l t = rw (value l t) (record { sfits = omega arith })

  pub minus : h ≤ n → n < 2 * h → to_z w64 (of_z w64 (negsuc 0 -ℤ to_z w64 (h - 1 - (n - h)))) ≡ twos h n
  unfolding twos
  minus l t =
      rw (le-ltb n h l)
      (to_z-of_z w64 (negsuc 0 -ℤ to_z w64 (h - 1 - (n - h))) (minus_fits l t)
      ∙ value l t
      ∙ ap negsuc (omega arith)
      ∙ sym (below n (2 * h) t))

-- two's complement by half of the numbers is two's complement
pub by_half : (bs : List ℕ) (h : ℕ) → 2 * h ≡ 256 ^ length bs → twos h (big bs) ≡ signed bs
unfolding twos signed
by_half bs h e =
    by_lt (λ (z : ℤ). z ≡ signed bs) (big bs) h
    (λ (l : big bs < h). let t : 2 * big bs < 256 ^ length bs = omega arith in simp (lt-ltb _ _ t))
    (λ (l : h ≤ big bs). let t : 256 ^ length bs ≤ 2 * big bs = omega arith in simp (le-ltb _ _ t, e))
