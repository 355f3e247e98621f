-- The groups of a row in the descriptor's bytes: a triplet's own, then those of the CPT behind it, or the end.
-- Assumes nothing.
use Rattle.std.specs.Prelude.{if◌then◌else◌}
use mathlib.Core.Path.{◌≡◌, refl, sym, ap, ◌∙◌, subst}
use mathlib.Core.Logic.{◌≢◌}
use Prim.Native.Nat.{ℕ, suc, ◌+◌, ◌-◌, ◌%◌, ◌≤◌, ◌<◌}
use native.Mathlib.Omega.{arith}
use mathlib.Core.Bool.{Bool, true, false}
use mathlib.Core.List.{List, [], ◌∷◌, ◌++◌}
use lib.Dec.{ltb, eqb}
use lib.ListN.{length, get_or, take, drop, length-drop, take-append-drop}
use lib.Seq.{drop-cons, drop-drop, drop-append-le, length-take-le, get_or-drop}
use borrow.Author.Tests.{lt-ltb, eq-eqb, ne_eqb}
use Rattle.fdoca.specs.Triplet.{Group, threes, groups_of}
use Rattle.plans.specs.Tied.{groups_in, case_of, Groups}
use Rattle.triplets.specs.Judged.{GoodRow}
use Rattle.descriptors.specs.Holds.{EndsAt, no_head, no_cpt}

-- three bytes and what follows them
pub three : (d : List ℕ) (p : ℕ) → p + 3 ≤ length d → drop p d ≡ get_or d p 0 ∷ get_or d (p + 1) 0 ∷ get_or d (p + 2) 0 ∷ drop (p + 3) d
three d p h =
    let e₁ : p + 1 ≡ suc p = omega arith in
    let e₂ : p + 2 ≡ suc (suc p) = omega arith in
    let e₃ : p + 3 ≡ suc (suc (suc p)) = omega arith in
    rw (e₁, e₂, e₃, drop-cons d p 0 (omega arith), drop-cons d (suc p) 0 (omega arith), drop-cons d (suc (suc p)) 0 (omega arith))

-- each group of a list
abbrev pub AllGroups : (Group → Type 0) → List Group → Type 0
AllGroups P [] = Unit {0}
AllGroups P (g ∷ gs) = P g × AllGroups P gs

-- where a row ends
short_none : (x : List ℕ) → length x < 3 → groups_in 0 x ≡ []
unfolding groups_in
short_none [] h = refl
short_none (a ∷ []) h = refl
short_none (a ∷ b ∷ []) h = refl
short_none (a ∷ b ∷ c ∷ x) h = absurd (let z : ⊥ = omega arith in z)

short_all : (P : Group → Type 0) (x : List ℕ) → length x < 3 → Groups P 0 x
unfolding Groups
short_all P [] h = refl
short_all P (a ∷ []) h = refl
short_all P (a ∷ b ∷ []) h = refl
short_all P (a ∷ b ∷ c ∷ x) h = absurd (let z : ⊥ = omega arith in z)

head_none : (x : List ℕ) → get_or x 1 0 ≢ 0x7F → groups_in 0 x ≡ []
unfolding groups_in
head_none [] h = refl
head_none (a ∷ []) h = refl
head_none (a ∷ b ∷ []) h = refl
head_none (a ∷ b ∷ c ∷ x) h = simp (ne_eqb b 0x7F h)

head_all : (P : Group → Type 0) (x : List ℕ) → get_or x 1 0 ≢ 0x7F → Groups P 0 x
unfolding Groups
head_all P [] h = refl
head_all P (a ∷ []) h = refl
head_all P (a ∷ b ∷ []) h = refl
head_all P (a ∷ b ∷ c ∷ x) h = rw (ne_eqb b 0x7F h) tt

pub ends_none : (d : List ℕ) (p : ℕ) → EndsAt d p → groups_in 0 (drop p d) ≡ []
ends_none d p (no_head h) = short_none (drop p d) (omega (arith, length-drop p d))
ends_none d p (no_cpt h) = head_none (drop p d) (rw get_or-drop h)

pub ends_all : (P : Group → Type 0) (d : List ℕ) (p : ℕ) → EndsAt d p → Groups P 0 (drop p d)
ends_all P d p (no_head h) = short_all P (drop p d) (omega (arith, length-drop p d))
ends_all P d p (no_cpt h) = head_all P (drop p d) (rw get_or-drop h)

-- a CPT's head goes on to its groups
module _ (d : List ℕ) (p : ℕ) (h : p + 3 ≤ length d) (c : get_or d (p + 1) 0 ≡ 0x7F) where
  pub cpt_groups : groups_in 0 (drop p d) ≡ groups_in (get_or d p 0 - 3) (drop (p + 3) d)
  unfolding groups_in
  cpt_groups = rw (three d p h) (simp (eq-eqb (get_or d (p + 1) 0) 0x7F c))

  pub cpt_all : (P : Group → Type 0) → Groups P (get_or d p 0 - 3) (drop (p + 3) d) → Groups P 0 (drop p d)
  unfolding Groups
  cpt_all P g = rw (three d p h) (rw (eq-eqb (get_or d (p + 1) 0) 0x7F c) g)

-- so many bytes of groups, and what follows them
own_in : (n : ℕ) (x rest : List ℕ) → length x ≡ n → n % 3 ≡ 0 → groups_in n (x ++ rest) ≡ threes x ++ groups_in 0 rest
unfolding groups_in
own_in n [] rest e m = ap (λ k. groups_in k rest) (sym e)
own_in n (a ∷ []) rest e m = absurd (let z : ⊥ = omega arith in z)
own_in n (a ∷ b ∷ []) rest e m = absurd (let z : ⊥ = omega arith in z)
own_in n (a ∷ b ∷ c ∷ x) rest e m =
    rw (lt-ltb 0 n (omega arith)) (ap (λ l. record { ref = a; byte1 = b; byte2 = c } ∷ l) (own_in (n - 3) x rest (omega arith) (omega arith)))

own_all : (P : Group → Type 0) (n : ℕ) (x rest : List ℕ) → length x ≡ n → n % 3 ≡ 0 → AllGroups P (threes x) → Groups P 0 rest → Groups P n (x ++ rest)
unfolding Groups
own_all P n [] rest e m a g = subst (λ k. Groups P k rest) e g
own_all P n (a ∷ []) rest e m q g = absurd (let z : ⊥ = omega arith in z)
own_all P n (a ∷ b ∷ []) rest e m q g = absurd (let z : ⊥ = omega arith in z)
own_all P n (a ∷ b ∷ c ∷ x) rest e m q g =
    rw (lt-ltb 0 n (omega arith)) (q.0, own_all P (n - 3) x rest (omega arith) (omega arith) q.1 g)

-- the triplet at p, of n bytes
module _ (d : List ℕ) (p n : ℕ) (fits : p + n ≤ length d) (good : GoodRow (take n (drop p d))) where
  abbrev t : List ℕ
  t = take n (drop p d)

  size : length t ≡ n
  size = length-take-le n (drop p d) (omega (arith, length-drop p d))

  split : drop (p + 3) d ≡ drop 3 t ++ drop (p + n) d
  split =
      let e : drop p d ≡ t ++ drop (p + n) d = rw (← drop-drop n p d) (sym (take-append-drop n (drop p d))) in
      sym (drop-drop 3 p d) ∙ ap (drop 3) e ∙ drop-append-le 3 t (drop (p + n) d) (omega (arith, good.some_there))

  bytes : length (drop 3 t) ≡ n - 3
  bytes = length-drop 3 t ∙ omega (arith, size)

  pub own_groups : groups_in (n - 3) (drop (p + 3) d) ≡ groups_of t ++ groups_in 0 (drop (p + n) d)
  own_groups = rw split (own_in (n - 3) (drop 3 t) (drop (p + n) d) bytes (omega (arith, good.some_there, good.by_three, size)))

  pub own_refer : (P : Group → Type 0) → AllGroups P (groups_of t) → Groups P 0 (drop (p + n) d) → Groups P (n - 3) (drop (p + 3) d)
  own_refer P a g =
      rw split (own_all P (n - 3) (drop 3 t) (drop (p + n) d) bytes (omega (arith, good.some_there, good.by_three, size)) a g)

-- what holds along the bytes holds of each group
pub groups_all : (P : Group → Type 0) (n : ℕ) (x : List ℕ) → Groups P n x → AllGroups P (groups_in n x)
unfolding Groups groups_in
groups_all P n [] g = tt
groups_all P n (a ∷ []) g = tt
groups_all P n (a ∷ b ∷ []) g = tt
groups_all P n (a ∷ b ∷ c ∷ x) g = go (ltb 0 n) (eqb b 0x7F) g (λ k. groups_all P (n - 3) x k) (λ k. groups_all P (a - 3) x k)
  where
    go : (q r : Bool) → case_of q (P (record { ref = a; byte1 = b; byte2 = c }) × Groups P (n - 3) x) (case_of r (Groups P (a - 3) x) (Unit {0}))
        → (Groups P (n - 3) x → AllGroups P (groups_in (n - 3) x)) → (Groups P (a - 3) x → AllGroups P (groups_in (a - 3) x))
        → AllGroups P (if q then record { ref = a; byte1 = b; byte2 = c } ∷ groups_in (n - 3) x else if r then groups_in (a - 3) x else [])
    go true r g f h = (g.0, f g.1)
    go false true g f h = h g
    go false false g f h = tt

pub groups_map : {P Q : Group → Type 0} → ((g : Group) → P g → Q g) → (n : ℕ) (x : List ℕ) → Groups P n x → Groups Q n x
unfolding Groups
groups_map f n [] g = g
groups_map f n (a ∷ []) g = g
groups_map f n (a ∷ b ∷ []) g = g
groups_map {P = P} {Q = Q} f n (a ∷ b ∷ c ∷ x) g = go (ltb 0 n) (eqb b 0x7F) g (λ k. groups_map f (n - 3) x k) (λ k. groups_map f (a - 3) x k)
  where
    go : (q r : Bool) → case_of q (P (record { ref = a; byte1 = b; byte2 = c }) × Groups P (n - 3) x) (case_of r (Groups P (a - 3) x) (Unit {0}))
        → (Groups P (n - 3) x → Groups Q (n - 3) x) → (Groups P (a - 3) x → Groups Q (a - 3) x)
        → case_of q (Q (record { ref = a; byte1 = b; byte2 = c }) × Groups Q (n - 3) x) (case_of r (Groups Q (a - 3) x) (Unit {0}))
    go true r g k h = (f _ g.0, k g.1)
    go false true g k h = h g
    go false false g k h = tt
