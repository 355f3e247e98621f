-- The triplets of a descriptor as a loop over places meets them.
-- Assumes nothing.
use Rattle.std.specs.Prelude.{if◌then◌else◌}
use mathlib.Core.Path.{◌≡◌, refl, sym, ap, ◌∙◌}
use Prim.Native.Nat.{ℕ, zero, suc, ◌+◌, ◌-◌, ◌≤◌, ◌<◌}
use native.Mathlib.Omega.{arith}
use mathlib.Core.Bool.{Bool, true, false, ◌||◌}
use mathlib.Core.List.{List, [], ◌∷◌}
use lib.Dec.{ltb, eqb}
use lib.ListN.{length, take, drop, get_or, length-drop}
use lib.Seq.{drop-cons, drop-drop}
use borrow.Author.Tests.{lt-ltb, le-ltb, eq-eqb, ne_eqb}
use Rattle.fdoca.specs.Basics.{is_empty}
use Rattle.fdoca.specs.Triplet.{Triplet, torn, triplet, triplets_from}
use Rattle.fdoca.specs.Between.{triplets_at}
use Rattle.fdoca.proofs.Tests.{by_order}

-- Fuel beyond the number of bytes changes nothing.
pub fuel : (m n p : ℕ) (s : List ℕ) → length s ≤ m → length s ≤ n → triplets_from m p s ≡ triplets_from n p s
fuel zero zero p s h k = refl
fuel zero (suc n) p [] h k = refl
fuel zero (suc n) p (b ∷ s) h k = absurd (let z : ⊥ = omega arith in z)
fuel (suc m) zero p [] h k = refl
fuel (suc m) zero p (b ∷ s) h k = absurd (let z : ⊥ = omega arith in z)
fuel (suc m) (suc n) p [] h k = refl
fuel (suc m) (suc n) p (zero ∷ s) h k = refl
fuel (suc m) (suc n) p (suc b ∷ s) h k =
    let d : length (drop b s) ≡ length s - b = length-drop b s in
    rw (fuel m n (p + suc b) (drop b s) (omega arith) (omega arith))

-- Triplets are left where bytes are.
some_left : (k p n : ℕ) (s : List ℕ) → k ≡ suc (length s) → is_empty (triplets_from k p (n ∷ s)) ≡ false
some_left k p n s e = rw e (go (ltb n 2 || ltb (suc (length s)) n) _)
  where
    go : (b : Bool) (ts : List Triplet) → is_empty (if b then torn p ∷ [] else triplet p (take n (n ∷ s)) ∷ ts) ≡ false
    go true ts = refl
    go false ts = refl

pub triplets_left : (d : List ℕ) (p : ℕ) → p < length d → is_empty (triplets_at d p) ≡ false
triplets_left d p h =
    let e : length d - p ≡ suc (length (drop (suc p) d)) = omega (arith, length-drop (suc p) d) in
    rw (drop-cons d p 0 h) (some_left (length d - p) p (get_or d p 0) (drop (suc p) d) e)

pub triplets_end : (d : List ℕ) (p : ℕ) → length d ≤ p → triplets_at d p ≡ []
triplets_end d p h = let e : length d - p ≡ 0 = omega arith in rw e

-- the triplets of bytes that begin with LENGTH n
from_torn : (k p n : ℕ) (s : List ℕ) → k ≡ suc (length s) → (ltb n 2 || ltb (suc (length s)) n) ≡ true → triplets_from k p (n ∷ s) ≡ torn p ∷ []
from_torn k p n s e t = rw (e, t)

from_next : (k p n : ℕ) (s : List ℕ) → k ≡ suc (length s) → (ltb n 2 || ltb (suc (length s)) n) ≡ false
    → triplets_from k p (n ∷ s) ≡ triplet p (take n (n ∷ s)) ∷ triplets_from (length s) (p + n) (drop n (n ∷ s))
from_next k p n s e t = rw (e, t)

module _ (d : List ℕ) (p : ℕ) (h : p < length d) where
  -- a torn triplet is the last
  pub triplets_short : get_or d p 0 < 2 → triplets_at d p ≡ torn p ∷ []
  triplets_short k =
      let e : length d - p ≡ suc (length (drop (suc p) d)) = omega (arith, length-drop (suc p) d) in
      rw (drop-cons d p 0 h) (from_torn (length d - p) p (get_or d p 0) (drop (suc p) d) e (rw (lt-ltb (get_or d p 0) 2 k)))

  pub triplets_past : 2 ≤ get_or d p 0 → length d < p + get_or d p 0 → triplets_at d p ≡ torn p ∷ []
  triplets_past k₁ k₂ =
      let e : length d - p ≡ suc (length (drop (suc p) d)) = omega (arith, length-drop (suc p) d) in
      rw (drop-cons d p 0 h)
      (from_torn (length d - p) p (get_or d p 0) (drop (suc p) d) e
      (rw (le-ltb (get_or d p 0) 2 k₁) (lt-ltb (suc (length (drop (suc p) d))) (get_or d p 0) (omega arith))))

  pub triplets_next : 2 ≤ get_or d p 0 → p + get_or d p 0 ≤ length d
      → triplets_at d p ≡ triplet p (take (get_or d p 0) (drop p d)) ∷ triplets_at d (p + get_or d p 0)
  triplets_next k₁ k₂ =
      let n : ℕ = get_or d p 0 in
      let s : List ℕ = drop (suc p) d in
      let c : drop p d ≡ n ∷ s = drop-cons d p 0 h in
      let e : length d - p ≡ suc (length s) = omega (arith, length-drop (suc p) d) in
      let t : (ltb n 2 || ltb (suc (length s)) n) ≡ false = rw (le-ltb n 2 k₁) (le-ltb (suc (length s)) n (omega arith)) in
      let r : drop n (n ∷ s) ≡ drop (p + n) d = ap (drop n) (sym c) ∙ drop-drop n p d in
      let x : triplets_from (length s) (p + n) (drop n (n ∷ s)) ≡ triplets_at d (p + n) =
      rw r (fuel (length s) (length d - (p + n)) (p + n) (drop (p + n) d) (omega (arith, length-drop (p + n) d)) (omega (arith, length-drop (p + n) d))) in
      rw c (from_next (length d - p) p n s e t ∙ ap (λ ts. triplet p (take n (n ∷ s)) ∷ ts) x)

-- whether the triplet before the place p is the last
pub triplets_empty : (d : List ℕ) (p : ℕ) → p ≤ length d → is_empty (triplets_at d p) ≡ eqb p (length d)
triplets_empty d p h =
    by_order p (length d) (λ l. rw (triplets_left d p l, ne_eqb p (length d) (omega arith))) (λ e. rw (triplets_end d p (omega arith), eq-eqb p (length d) e))
    (λ l. absurd (let z : ⊥ = omega arith in z))
