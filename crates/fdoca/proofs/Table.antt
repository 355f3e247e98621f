-- The entries of a list and its end; and what is looked up in a table.
-- Assumes nothing.
use Rattle.std.specs.Prelude.{if◌then◌else◌}
use mathlib.Core.Path.{◌≡◌, refl}
use Prim.Native.Nat.{ℕ, zero, suc, ◌<◌, ◌≤◌}
use native.Mathlib.Omega.{arith}
use mathlib.Core.Bool.{Bool, true, false, ◌&&◌}
use mathlib.Core.List.{List, [], ◌∷◌}
use mathlib.Core.Option.{none, some}
use lib.Dec.{eqb}
use lib.ListN.{length, get_elem?}
use borrow.Author.Tests.{eqb-true, eqb-false, ne_eqb}
use Rattle.fdoca.specs.Basics.{lookup}
use Rattle.fdoca.proofs.Tests.{and_left, and_right}

-- nothing stands past a list's end
pub past_end : {A : Type 0} (l : List A) (k : ℕ) → length l ≤ k → get_elem? l k ≡ none
past_end [] k h = refl
past_end (x ∷ l) zero h = absurd (let z : ⊥ = omega arith in z)
past_end (x ∷ l) (suc k) h = past_end l k (omega arith)

pub not_there : {A : Type 0} (l : List A) (k : ℕ) → get_elem? l k ≡ none → length l ≤ k
not_there [] k h = omega arith
not_there (x ∷ l) zero h = absurd (let z : ◌≡◌ {A = ℕ} 0 1 = cc in let w : ⊥ = omega arith in w)
not_there (x ∷ l) (suc k) h = let q : length l ≤ k = not_there l k h in omega arith

-- and up to it each place has an entry
pub is_there : {A : Type 0} (l : List A) (k : ℕ) (a : A) → get_elem? l k ≡ some a → k < length l
is_there [] k a e = absurd (let z : ◌≡◌ {A = ℕ} 0 1 = cc in let w : ⊥ = omega arith in w)
is_there (x ∷ l) zero a e = omega arith
is_there (x ∷ l) (suc k) a e = let h : k < length l = is_there l k a e in omega arith

pub there : {A : Type 0} (l : List A) (k : ℕ) → k < length l → (a : A) × (get_elem? l k ≡ some a)
there [] k h = absurd (let z : ⊥ = omega arith in z)
there (x ∷ l) zero h = (x, refl)
there (x ∷ l) (suc k) h = there l k (omega arith)

-- a test that every entry of an association list passes, and so the one that is looked up
module _ {A : Type 0} (P : ℕ → A → Bool) where
  abbrev pub every : List (ℕ × A) → Bool
  every [] = true
  every (e ∷ es) = P e.0 e.1 && every es

  pub looked_up : (n : ℕ) (es : List (ℕ × A)) (a : A) → every es ≡ true → lookup n es ≡ some a → P n a ≡ true
  looked_up n [] a h e = absurd (let z : ◌≡◌ {A = ℕ} 0 1 = cc in let w : ⊥ = omega arith in w)
  looked_up n (x ∷ es) a h e = go (eqb n x.0) refl e (λ k. looked_up n es a (and_right (P x.0 x.1) (every es) h) k)
    where
      go : (b : Bool) → eqb n x.0 ≡ b → (if b then some x.1 else lookup n es) ≡ some a → (lookup n es ≡ some a → P n a ≡ true) → P n a ≡ true
      go true t e ih =
          let k : n ≡ x.0 = eqb-true n x.0 t in
          let l : a ≡ x.1 = cc in
          rw (k, l) (and_left (P x.0 x.1) (every es) h)
      go false t e ih = ih e

-- what holds of every entry holds of the one that is looked up; a number is not found exactly where no entry has it
module _ {A : Type 0} where
  infixr 20 ◌&◌
  pub data Every (Q : ℕ → A → Type 0) : List (ℕ × A) → Type 0 where
    end : Every Q []
    ◌&◌ : {e : ℕ × A} {es : List (ℕ × A)} → Q e.0 e.1 → Every Q es → Every Q (e ∷ es)

  pub found_as : (Q : ℕ → A → Type 0) (n : ℕ) (es : List (ℕ × A)) (a : A) → Every Q es → lookup n es ≡ some a → Q n a
  found_as Q n [] a h e = absurd (let z : ◌≡◌ {A = ℕ} 0 1 = cc in let w : ⊥ = omega arith in w)
  found_as Q n (x ∷ es) a (q & h) e = go (eqb n x.0) refl e (λ k. found_as Q n es a h k)
    where
      go : (b : Bool) → eqb n x.0 ≡ b → (if b then some x.1 else lookup n es) ≡ some a → (lookup n es ≡ some a → Q n a) → Q n a
      go true t e ih =
          let k : n ≡ x.0 = eqb-true n x.0 t in
          let l : a ≡ x.1 = cc in
          rw (k, l) q
      go false t e ih = ih e

  abbrev pub Unlisted : ℕ → List (ℕ × A) → Type 0
  Unlisted n [] = Unit {0}
  Unlisted n (e ∷ es) = (n ≡ e.0 → ⊥) × Unlisted n es

  pub unlisted : (n : ℕ) (es : List (ℕ × A)) → lookup n es ≡ none → Unlisted n es
  unlisted n [] e = tt
  unlisted n (x ∷ es) e = go (eqb n x.0) refl e (λ k. unlisted n es k)
    where
      go : (b : Bool) → eqb n x.0 ≡ b → (if b then some x.1 else lookup n es) ≡ none → (lookup n es ≡ none → Unlisted n es)
          → (n ≡ x.0 → ⊥) × Unlisted n es
      go true t e ih = absurd (let z : ◌≡◌ {A = ℕ} 0 1 = cc in let w : ⊥ = omega arith in w)
      go false t e ih = (eqb-false n x.0 t, ih e)

  pub not_listed : (n : ℕ) (es : List (ℕ × A)) → Unlisted n es → lookup n es ≡ none
  not_listed n [] h = refl
  not_listed n (x ∷ es) h = rw (ne_eqb n x.0 h.0) (not_listed n es h.1)
