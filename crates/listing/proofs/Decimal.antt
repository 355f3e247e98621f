-- A number in decimal: its digits, and how many there are at most.
-- Assumes nothing.
use Rattle.std.specs.Prelude.{if◌then◌else◌}
use mathlib.Core.Path.{◌≡◌, refl, ap}
use Prim.Native.Nat.{ℕ, zero, suc, ◌+◌, ◌*◌, ◌/◌, ◌%◌, ◌^◌, ◌<◌, ◌≤◌}
use native.Mathlib.Nat.{pow-suc}
use native.Mathlib.Omega.{arith}
use mathlib.Core.Bool.{Bool, true, false}
use mathlib.Core.List.{[], ◌∷◌, ◌++◌}
use lib.Dec.{ltb}
use lib.ListN.{length, length-append}
use borrow.Author.Tests.{ltb-true, ltb-false, lt-ltb, le-ltb}
use Rattle.fdoca.specs.Dump.{decimal_by, decimal}

-- any fuel above the number gives the same digits
same_digits : (g h n : ℕ) → n < g → n < h → decimal_by g n ≡ decimal_by h n
same_digits zero h n a b = absurd (let z : ⊥ = omega arith in z)
same_digits (suc g) zero n a b = absurd (let z : ⊥ = omega arith in z)
same_digits (suc g) (suc h) n a b = go (ltb n 10) refl (λ k l. same_digits g h (n / 10) k l)
  where
    go : (t : Bool) → ltb n 10 ≡ t → (n / 10 < g → n / 10 < h → decimal_by g (n / 10) ≡ decimal_by h (n / 10))
        → (if t then (48 + n) ∷ [] else decimal_by g (n / 10) ++ ((48 + n % 10) ∷ []))
        ≡ (if t then (48 + n) ∷ [] else decimal_by h (n / 10) ++ ((48 + n % 10) ∷ []))
    go true e ih = refl
    go false e ih =
        let k : 10 ≤ n = ltb-false n 10 e in
        ap (λ l. l ++ ((48 + n % 10) ∷ [])) (ih (omega arith) (omega arith))

pub one_digit : (n : ℕ) → n < 10 → decimal n ≡ (48 + n) ∷ []
unfolding decimal
one_digit n h = simp (lt-ltb n 10 h)

pub more_digits : (n : ℕ) → 10 ≤ n → decimal n ≡ decimal (n / 10) ++ ((48 + n % 10) ∷ [])
unfolding decimal
more_digits n h = rw (le-ltb n 10 h) (ap (λ l. l ++ ((48 + n % 10) ∷ [])) (same_digits n (suc (n / 10)) (n / 10) (omega arith) (omega arith)))

pub more_long : (n : ℕ) → 10 ≤ n → length (decimal n) ≡ length (decimal (n / 10)) + 1
more_long n h = rw (more_digits n h) (length-append (decimal (n / 10)) ((48 + n % 10) ∷ []))

-- a number below 10 ^ (k + 1) has at most k + 1 digits
pub few_digits : (k n : ℕ) → n < 10 ^ suc k → length (decimal n) ≤ suc k
few_digits zero n l = rw (one_digit n l) (omega arith)
few_digits (suc k) n l = go (ltb n 10) refl (λ h. few_digits k (n / 10) h)
  where
    go : (t : Bool) → ltb n 10 ≡ t → (n / 10 < 10 ^ suc k → length (decimal (n / 10)) ≤ suc k) → length (decimal n) ≤ suc (suc k)
    go true e ih = rw (one_digit n (ltb-true n 10 e)) (omega arith)
    go false e ih =
        let m : n < 10 ^ suc k * 10 = rw pow-suc at l in
        let r : length (decimal (n / 10)) ≤ suc k = ih (omega arith) in
        omega (arith, more_long n (ltb-false n 10 e))
