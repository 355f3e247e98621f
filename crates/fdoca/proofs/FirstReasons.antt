-- A result that is refused for the first of some reasons, or accepted where none holds.
-- Assumes nothing.
use mathlib.Core.Path.{◌≡◌, refl, sym}
use mathlib.Core.Logic.{◌⊎◌, inl, inr, ◌↔◌}
use Prim.Native.Nat.{ℕ}
use native.Mathlib.Omega.{arith}
use mathlib.Core.Bool.{Bool, true, false}
use mathlib.Core.List.{List}
use mathlib.Core.Option.{Option, none, some}
use Rattle.fdoca.specs.Basics.{Result, refuse, ok, ◌>>=◌, ◌>>◌, reject, the}
use Rattle.fdoca.specs.Reasons.{Earlier, here, further, First, None}

pub data Told {A : Type 0} (R : List ℕ → ℕ → ℕ → Type 0) : Result A → Type 0 where
  refused : {m p : ℕ} → First R m p → Told R (refuse m p)
  accepted : {a : A} → None R → Told R (ok a)

asymmetric_at : {t u v w : List ℕ} → Earlier t u → Earlier v w → u ≡ v → w ≡ t → ⊥
asymmetric_at (here {a = a} {b = b} h) (here {a = c} {b = e} k) p q =
    let l : b ≡ c = cc in let m : e ≡ a = cc in
    omega arith
asymmetric_at (here {a = a} {b = b} h) (further {a = c} k) p q =
    let l : b ≡ c = cc in let m : c ≡ a = cc in
    omega arith
asymmetric_at (further {a = a} h) (here {a = c} {b = e} k) p q =
    let l : a ≡ c = cc in let m : e ≡ a = cc in
    omega arith
asymmetric_at (further {t = t} {u = u} h) (further {t = v} {u = w} k) p q =
    let l : u ≡ v = cc in let m : w ≡ t = cc in
    asymmetric_at h k l m

asymmetric : {t u : List ℕ} → Earlier t u → Earlier u t → ⊥
asymmetric h k = asymmetric_at h k refl refl

first_unique : {R : List ℕ → ℕ → ℕ → Type 0} {m p n q : ℕ} → First R m p → First R n q → (m ≡ n) × (p ≡ q)
first_unique {R} {m} {p} {n} {q} a b = go (a.others_later b.turn n q b.reason) (b.others_later a.turn m p a.reason)
  where
    go : Earlier a.turn b.turn ⊎ ((b.turn ≡ a.turn) × (n ≡ m) × (q ≡ p)) → Earlier b.turn a.turn ⊎ ((a.turn ≡ b.turn) × (m ≡ n) × (p ≡ q))
        → (m ≡ n) × (p ≡ q)
    go (inl x) (inl y) = absurd (asymmetric x y)
    go (inl x) (inr e) = (e.1, e.2)
    go (inr e) y = (sym e.1, sym e.2)

module _ {A : Type 0} {R : List ℕ → ℕ → ℕ → Type 0} where
  -- It is refused with m at p exactly where that is the first reason,
  pub refused_first : (x : Result A) → Told R x → (m p : ℕ) → (x ≡ refuse m p) ↔ First R m p
  refused_first x h m p = (λ e. there_is (rw e at h), λ f. back x h f)
    where
      there_is : Told {A = A} R (refuse m p) → First R m p
      there_is (refused f) = f

      back : (x : Result A) → Told R x → First R m p → x ≡ refuse m p
      back x (refused g) f = let e = first_unique g f in rw (e.0, e.1)
      back x (accepted n) f = absurd (n f.turn m p f.reason)

  -- and accepted exactly where there is none.
  pub accepted_none : (x : Result A) → Told R x → ((a : A) × (x ≡ ok a)) ↔ None R
  accepted_none x h = (λ e. there_is (rw e.1 at h), λ n. back x h n)
    where
      there_is : {a : A} → Told R (ok a) → None R
      there_is (accepted n) = n

      back : (x : Result A) → Told R x → None R → (a : A) × (x ≡ ok a)
      back x (refused f) n = absurd (n f.turn _ _ f.reason)
      back x (accepted {a = a} n) m = (a, refl)

-- Reasons of either kind.
abbrev pub Either : (R S : List ℕ → ℕ → ℕ → Type 0) → List ℕ → ℕ → ℕ → Type 0
Either R S t m p = R t m p ⊎ S t m p

-- A reason with one turn, number and place.
pub data Once (P : Type 0) (t : List ℕ) (m p : ℕ) : List ℕ → ℕ → ℕ → Type 0 where
  once : P → Once P t m p t m p

-- The first reason of the first kind comes before those of the second.
abbrev pub Precedes : (R S : List ℕ → ℕ → ℕ → Type 0) → Type 0
Precedes R S = (t u : List ℕ) (m p n q : ℕ) → R t m p → S u n q → Earlier t u ⊎ ((u ≡ t) × (n ≡ m) × (q ≡ p))

module _ {A : Type 0} where
  pub told_as : {R S : List ℕ → ℕ → ℕ → Type 0} {x : Result A} → ((t : List ℕ) (m p : ℕ) → R t m p → S t m p) → ((t : List ℕ) (m p : ℕ) → S t m p → R t m p)
      → Told R x → Told S x
  told_as f g (refused {m = m} {p = p} h) =
      refused (record { turn = h.turn; reason = f h.turn m p h.reason; others_later = λ t n q r. h.others_later t n q (g t n q r) })
  told_as f g (accepted n) = accepted (λ t m p r. n t m p (g t m p r))

  -- one test after another
  pub told_then : {B : Type 0} {R S : List ℕ → ℕ → ℕ → Type 0} (x : Result A) (f : A → Result B) → Precedes R S → Told R x
      → ((a : A) → x ≡ ok a → Told S (f a)) → Told (Either R S) (x >>= f)
  told_then {B} {R} {S} x f before (refused {m = m} {p = p} h) next =
      refused (record { turn = h.turn; reason = inl h.reason; others_later = others })
    where
      others : (t : List ℕ) (n q : ℕ) → Either R S t n q → Earlier h.turn t ⊎ ((t ≡ h.turn) × (n ≡ m) × (q ≡ p))
      others t n q (inl r) = h.others_later t n q r
      others t n q (inr r) = before h.turn t m p n q h.reason r
  told_then {B} {R} {S} x f before (accepted {a = a} n) next = go (f a) (next a refl)
    where
      go : (y : Result B) → Told S y → Told (Either R S) y
      go y (refused {m = m} {p = p} h) = refused (record { turn = h.turn; reason = inr h.reason; others_later = others })
        where
          others : (t : List ℕ) (u q : ℕ) → Either R S t u q → Earlier h.turn t ⊎ ((t ≡ h.turn) × (u ≡ m) × (q ≡ p))
          others t u q (inl r) = absurd (n t u q r)
          others t u q (inr r) = h.others_later t u q r
      go y (accepted k) = accepted none
        where
          none : None (Either R S)
          none t m p (inl r) = n t m p r
          none t m p (inr r) = k t m p r

-- a reason that stands alone
alone : {P : Type 0} {t : List ℕ} {m p : ℕ} → P → First (Once P t m p) m p
alone {P} {t} {m} {p} h = record { turn = t; reason = once h; others_later = λ u n q r. same r }
  where
    same : {u : List ℕ} {n q : ℕ} → Once P t m p u n q → Earlier t u ⊎ ((u ≡ t) × (n ≡ m) × (q ≡ p))
    same (once k) = inr (refl, refl, refl)

nothing_once : {P : Type 0} {t : List ℕ} {m p : ℕ} → (P → ⊥) → None (Once P t m p)
nothing_once {P} {t} {m} {p} n u k q (once h) = n h

pub reject_told : {P : Type 0} {t : List ℕ} (b : Bool) (m p : ℕ) → (b ≡ true → P) → (b ≡ false → P → ⊥) → Told (Once P t m p) (reject b m p)
reject_told true m p f g = refused (alone (f refl))
reject_told false m p f g = accepted (nothing_once (g refl))

pub told_tested : {A P : Type 0} {S : List ℕ → ℕ → ℕ → Type 0} {t : List ℕ} {y : Result A} (b : Bool) (m p : ℕ) → Precedes (Once P t m p) S → (b ≡ true → P)
    → (b ≡ false → P → ⊥) → (b ≡ false → Told S y) → Told (Either (Once P t m p) S) (reject b m p >> y)
told_tested {A} {P} {S} {t} {y} b m p before f g next = rw (same b) (told_then (reject b m p) (λ u. y) before (reject_told b m p f g) (λ u e. next (passed b e)))
  where
    same : (b : Bool) → (reject b m p >> y) ≡ (reject b m p >>= (λ u. y))
    same true = refl
    same false = refl

    passed : (b : Bool) {u : Unit {0}} → reject b m p ≡ ok u → b ≡ false
    passed true e = absurd (let z : ◌≡◌ {A = ℕ} 0 1 = cc in let w : ⊥ = omega arith in w)
    passed false e = refl

pub the_told : {A P : Type 0} {t : List ℕ} (o : Option A) (m p : ℕ) → (o ≡ none → P) → ((a : A) → o ≡ some a → P → ⊥) → Told (Once P t m p) (the o m p)
the_told none m p f g = refused (alone (f refl))
the_told (some a) m p f g = accepted (nothing_once (g a refl))
