-- Runs of stores: the three runs of `write`, which are one.
-- Assumes nothing.
use mathlib.Core.Path.{◌≡◌, refl, sym, ap, ◌∙◌}
use mathlib.Core.List.{List, [], ◌∷◌, ◌++◌}
use Prim.Native.Nat.{ℕ, zero, suc, ◌+◌, ◌-◌, ◌≤◌, ◌<◌, min}
use native.Mathlib.Nat.{zero-add, sub-zero}
use native.Mathlib.Numerals.{unary_clauses}
use native.Mathlib.Omega.{arith}
use Rattle.std.specs.List.{copy_within}
use lib.ListN.{length, set, take, drop, replicate, length-append, length-take}
use lib.Seq.{sets, sets-eq, length-sets, length-take-le, take-nil, take-take, take-append-le, take-append-add, drop-append-add, drop-drop, set_comm}
use Rattle.plans.proofs.Lists.{sets_append}

module _ {A : Type 0} where
  -- a store before others can come first
  store_before : (s v : List A) (i j : ℕ) (a : A) → i < j → set (sets s j v) i a ≡ sets (set s i a) j v
  store_before s [] i j a h = refl
  store_before s (b ∷ v) i j a h =
      store_before (set s j b) v i (suc j) a (omega arith) ∙ ap (λ (t : List A). sets t (suc j) v) (set_comm s j i b a (λ e. omega arith))

  stores_before : (s v u : List A) (i j : ℕ) → i + length u ≤ j → sets (sets s j v) i u ≡ sets (sets s i u) j v
  stores_before s v [] i j h = refl
  stores_before s v (a ∷ u) i j h =
      ap (λ (t : List A). sets t (suc i) u) (store_before s v i j a (omega arith)) ∙ stores_before (set s i a) v u (suc i) j (omega arith)

  -- stores from the beginning on
  at_front : (s v : List A) → length v ≤ length s → sets s 0 v ≡ v ++ drop (length v) s
  at_front s v h = sets-eq v s 0 (omega arith) ∙ ap (λ (n : ℕ). v ++ drop n s) (zero-add (length v))

  over_front : (s v w : List A) → length v ≤ length w → length w ≤ length s → sets (sets s 0 v) 0 w ≡ sets s 0 w
  over_front s v w h l =
      let e : length v + (length w - length v) ≡ length w = omega arith in
      let t : drop (length w) (sets s 0 v) ≡ drop (length w) s =
      ap (drop (length w)) (at_front s v (omega arith))
      ∙ ap (λ (n : ℕ). drop n (v ++ drop (length v) s)) (sym e)
      ∙ drop-append-add v (drop (length v) s) (length w - length v)
      ∙ drop-drop (length w - length v) (length v) s
      ∙ ap (λ (n : ℕ). drop n s) e in
      at_front (sets s 0 v) w (rw length-sets l) ∙ ap (λ (m : List A). w ++ m) t ∙ sym (at_front s w l)

  -- no more than there are
  pub take_least : (l : List A) (n : ℕ) → take (min (length l) n) l ≡ take n l
  take_least [] n = take-nil (min 0 n) ∙ sym (take-nil n)
  take_least (a ∷ l) zero = simp unary_clauses
  take_least (a ∷ l) (suc n) = simp unary_clauses (ap (λ (t : List A). a ∷ t) (take_least l n))

  pub take_replicate : (n m : ℕ) (a : A) → take m (replicate n a) ≡ replicate (min n m) a
  take_replicate zero m a = simp unary_clauses (take-nil m)
  take_replicate (suc n) zero a = simp unary_clauses
  take_replicate (suc n) (suc m) a = simp unary_clauses (ap (λ (t : List A). a ∷ t) (take_replicate n m a))

-- ---- the first n numbers, copied to `by`

pub moved : (plan plan' : List ℕ) (n by : ℕ) → by + n ≤ length plan → plan' ≡ copy_within plan 0 n by → plan' ≡ sets plan by (take n plan)
moved plan plan' n by room e =
    let l : length (take n plan) ≡ n = length-take-le n plan (omega arith) in
    e ∙ rw (sub-zero) (ap (λ (k : ℕ). take by plan ++ take n plan ++ drop (by + k) plan) (sym l) ∙ sym (sets-eq (take n plan) plan by (omega (arith, l))))

-- ---- `write`: the numbers p from the beginning on, cut; then moved up by as many as a has, as far as there is room; then those of a

module _ (plan a p : List ℕ) (room : length a ≤ length plan) where
  pub joined : (plan₁ plan₂ plan₃ : List ℕ) (m : ℕ) → plan₁ ≡ sets plan 0 (take (length plan) p) → m ≡ min (length p) (length plan - length a)
      → plan₂ ≡ sets plan₁ (length a) (take m plan₁) → plan₃ ≡ sets plan₂ 0 a → plan₃ ≡ sets plan 0 (take (length plan) (a ++ p))
  joined plan₁ plan₂ plan₃ m e₁ em e₂ e₃ =
      let size : ℕ = length plan in
      let v : List ℕ = take size p in
      let lv : length v ≡ min size (length p) = length-take size p in
      let lm : length (take m p) ≡ m = length-take-le m p (omega arith) in
      let la : length (a ++ take m p) ≡ length a + m = length-append a (take m p) ∙ ap (λ (x : ℕ). length a + x) lm in
      let es : length a + (size - length a) ≡ size = omega arith in
      let t : take m plan₁ ≡ take m p =
      ap (take m) (e₁ ∙ at_front plan v (omega arith)) ∙ take-append-le m v (drop (length v) plan) (omega arith) ∙ take-take m size p (omega arith) in
      let cut : take size (a ++ p) ≡ a ++ take m p =
      ap (λ (x : ℕ). take x (a ++ p)) (sym es)
      ∙ take-append-add a p (size - length a)
      ∙ ap (λ (x : List ℕ). a ++ x) (sym (take_least p (size - length a)) ∙ ap (λ (x : ℕ). take x p) (sym em)) in
      e₃
      ∙ ap (λ (x : List ℕ). sets x 0 a) (e₂ ∙ ap (sets plan₁ (length a)) t)
      ∙ stores_before plan₁ (take m p) a 0 (length a) (omega arith)
      ∙ ap (λ (x : ℕ). sets (sets plan₁ 0 a) x (take m p)) (sym (zero-add (length a)))
      ∙ sets_append plan₁ a (take m p) 0
      ∙ ap (λ (x : List ℕ). sets x 0 (a ++ take m p)) e₁
      ∙ over_front plan v (a ++ take m p) (omega arith) (omega arith)
      ∙ ap (sets plan 0) (sym cut)
