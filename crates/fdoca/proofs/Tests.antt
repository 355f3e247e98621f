-- Tests on numbers: from a fact to the test of a definition, from a test back to the fact, and definitions by cases.
-- Assumes nothing.
use Rattle.std.specs.Prelude.{if◌then◌else◌}
use mathlib.Core.Path.{◌≡◌, refl, sym}
use Prim.Native.Nat.{ℕ, ◌≤◌, ◌<◌}
use native.Mathlib.Omega.{arith}
use mathlib.Core.Logic.{◌⊎◌, inl, inr}
use mathlib.Core.Bool.{Bool, true, false, ◌&&◌, ◌||◌, true≢false}
use lib.Dec.{leb, ltb, eqb}
use borrow.Author.Tests.{lt-ltb, le-ltb, le-leb, lt-leb, eq-eqb, ne_eqb, ltb-true, ltb-false, leb-true, leb-false, eqb-true, eqb-false}

-- for `search`, which finds the fact among what is known
pub ruleset tests = (le-ltb, lt-ltb, le-leb, lt-leb, eq-eqb, ne_eqb)

-- for `omega`, which reads the test among what is known
pub ruleset facts = (ltb-true, ltb-false, leb-true, leb-false, eqb-true)

-- what holds of both cases holds of a definition by cases
pub by_test : {A : Type 0} (P : A → Type 0) (b : Bool) {x y : A} → (b ≡ true → P x) → (b ≡ false → P y) → P (if b then x else y)
by_test P true f g = f refl
by_test P false f g = g refl

module _ {A : Type 0} (P : A → Type 0) (a b : ℕ) {x y : A} where
  pub by_le : (a ≤ b → P x) → (b < a → P y) → P (if leb a b then x else y)
  by_le f g = by_test P (leb a b) (λ t. f (leb-true a b t)) (λ t. g (leb-false a b t))

  pub by_lt : (a < b → P x) → (b ≤ a → P y) → P (if ltb a b then x else y)
  by_lt f g = by_test P (ltb a b) (λ t. f (ltb-true a b t)) (λ t. g (ltb-false a b t))

  pub by_eq : (a ≡ b → P x) → ((a ≡ b → ⊥) → P y) → P (if eqb a b then x else y)
  by_eq f g = by_test P (eqb a b) (λ t. f (eqb-true a b t)) (λ t. g (eqb-false a b t))

-- two numbers, by how they stand to each other
pub by_order : {P : Type 0} (a b : ℕ) → (a < b → P) → (a ≡ b → P) → (b < a → P) → P
by_order {P} a b f g h = go (ltb a b) (ltb b a) refl refl
  where
    go : (x y : Bool) → ltb a b ≡ x → ltb b a ≡ y → P
    go true y t u = f (ltb-true a b t)
    go false true t u = h (ltb-true b a u)
    go false false t u = g (omega (arith, ltb-false a b t, ltb-false b a u))

-- what is not below is at least as large
pub at_least : (a b : ℕ) → (b < a → ⊥) → a ≤ b
at_least a b h = omega (arith, h)

-- both parts of a test that holds
pub and-true : (b : Bool) → (b && true) ≡ b
and-true true = refl
and-true false = refl

pub and-false : (b : Bool) → (b && false) ≡ false
and-false true = refl
and-false false = refl

pub and_left : (a b : Bool) → (a && b) ≡ true → a ≡ true
and_left true b h = refl
and_left false b h = h

pub and_right : (a b : Bool) → (a && b) ≡ true → b ≡ true
and_right true b h = h
and_right false b h = absurd (true≢false (sym h))

-- one of two numbers is over its limit
module _ (m x n y : ℕ) where
  pub either_over : (ltb m x || ltb n y) ≡ true → (m < x) ⊎ (n < y)
  either_over = go (ltb m x) (ltb n y) refl refl
    where
      go : (a b : Bool) → ltb m x ≡ a → ltb n y ≡ b → (a || b) ≡ true → (m < x) ⊎ (n < y)
      go true b t u h = inl (ltb-true m x t)
      go false true t u h = inr (ltb-true n y u)
      go false false t u h = absurd (true≢false (sym h))

  pub neither_over : (ltb m x || ltb n y) ≡ false → (m < x) ⊎ (n < y) → ⊥
  neither_over = go (ltb m x) (ltb n y) refl refl
    where
      go : (a b : Bool) → ltb m x ≡ a → ltb n y ≡ b → (a || b) ≡ false → (m < x) ⊎ (n < y) → ⊥
      go true b t u h k = true≢false h
      go false true t u h k = true≢false h
      go false false t u h (inl k) = omega (arith, ltb-false m x t)
      go false false t u h (inr k) = omega (arith, ltb-false n y u)
