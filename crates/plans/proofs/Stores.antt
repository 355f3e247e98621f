-- A run of one number, as `fill` writes it; and the loop of `copies`, a list that is stored number by number.
-- Assumes nothing.
use mathlib.Core.Path.{◌≡◌, refl, sym, ap, ◌∙◌}
use mathlib.Core.List.{List, [], ◌∷◌, ◌++◌, append_assoc}
use Prim.Native.Nat.{ℕ, zero, suc, ◌+◌, ◌-◌, ◌*◌, ◌≤◌, ◌<◌}
use native.Mathlib.Nat.{mul-zero}
use native.Mathlib.Numerals.{add-one}
use native.Mathlib.Omega.{arith}
use lib.ListN.{length, take, drop, get_or, set, replicate, length-set, length-append, length-replicate, length-drop, get_or-append}
use Rattle.std.proofs.lemmas.List.Edits.{paste_all}
use Rattle.std.proofs.lemmas.Slice.{put_mid-paste}
use borrow.Rule.Slice.PartMut.{put_mid}
use lib.Seq.{sets, sets-eq, length-take-le, take_all, take-suc, take-add, take-append-add, get_or-take, get_or-append-add}
use Rattle.fdoca.specs.Basics.{repeat}
use Rattle.plans.proofs.Lists.{length_repeat, repeat_behind, sets_append}

-- the first k of the numbers v are stored, from `at` on
pub record Stored (plan₀ plan v : List ℕ) (at k : ℕ) : Type 0 where
  pub stored : plan ≡ sets plan₀ at (take k v)
  pub within : k ≤ length v
  pub same_length : length plan ≡ length plan₀

pub none_stored : (plan₀ v : List ℕ) (at : ℕ) → Stored plan₀ plan₀ v at 0
none_stored plan₀ v at = record { stored = refl; within = omega arith; same_length = refl }

module _ (plan₀ plan v : List ℕ) (at k : ℕ) (w : Stored plan₀ plan v at k) where
  pub one_more : (x : ℕ) → k < length v → x ≡ get_or v k 0 → Stored plan₀ (set plan (at + k) x) v at (k + 1)
  one_more x h e =
      let next : take k v ++ x ∷ [] ≡ take (k + 1) v = rw (add-one, e) (sym (take-suc v k 0 h)) in
      record {
        stored =
            ap (λ (s : List ℕ). set s (at + k) x) w.stored
            ∙ ap (λ (j : ℕ). set (sets plan₀ at (take k v)) (at + j) x) (sym (length-take-le k v w.within))
            ∙ sets_append plan₀ (take k v) (x ∷ []) at
            ∙ ap (sets plan₀ at) next;
        within = omega arith;
        same_length = length-set plan (at + k) x ∙ w.same_length;
      }

  pub all_stored : length v ≤ k → plan ≡ sets plan₀ at v
  all_stored h = w.stored ∙ ap (sets plan₀ at) (take_all k v h)

-- ---- `fill`

pub filled : (plan v : List ℕ) (at n x : ℕ) → at + n ≤ length plan → v ≡ replicate (length (take (at + n - at) (drop at plan))) x
    → put_mid at (at + n - at) plan v ≡ sets plan at (replicate n x)
filled plan v at n x h e =
    let m : length (take (at + n - at) (drop at plan)) ≡ n = length-take-le (at + n - at) (drop at plan) (omega (arith, length-drop at plan)) ∙ omega arith in
    let l : length (replicate n x) ≡ n = length-replicate n x in
    put_mid-paste at (at + n - at) plan v (replicate n x) n (e ∙ rw m) (omega arith) (sym l)
    ∙ paste_all plan at (replicate n x) n (sym l)
    ∙ sym (append_assoc (take at plan) (replicate n x) (drop (at + n) plan))
    ∙ ap (λ (k : ℕ). take at plan ++ replicate n x ++ drop (at + k) plan) (sym l)
    ∙ sym (sets-eq (replicate n x) plan at (omega (arith, l)))

-- ---- `copies`

-- the numbers between `from` and `to`
abbrev pub between : List ℕ → ℕ → ℕ → List ℕ
between plan from to = take (to - from) (drop from plan)

some_between : (k n m : ℕ) → k < n * m → 0 < m
some_between k n zero h = omega (arith, mul-zero n)
some_between k n (suc m) h = omega arith

module _ (plan₀ plan : List ℕ) (from to more k : ℕ) (order : from ≤ to) (room : to + more * (to - from) ≤ length plan₀)
    (w : Stored plan₀ plan (repeat more (between plan₀ from to)) to k) where
  length_between : length (between plan₀ from to) ≡ to - from
  length_between = length-take-le (to - from) (drop from plan₀) (omega (arith, length-drop from plan₀))

  length_copies : length (repeat more (between plan₀ from to)) ≡ more * (to - from)
  length_copies = length_repeat more (between plan₀ from to) ∙ ap (λ (n : ℕ). more * n) length_between

  -- the plan from `from` on: the numbers themselves, and the copies so far
  from_here : plan ≡ take from plan₀ ++ (between plan₀ from to ++ take k (repeat more (between plan₀ from to)) ++ drop (to + k) plan₀)
  from_here =
      let l : List ℕ = between plan₀ from to in
      let r : List ℕ = take k (repeat more l) in
      let n : length r ≡ k = length-take-le k (repeat more l) w.within in
      let e : from + (to - from) ≡ to = omega arith in
      w.stored
      ∙ sets-eq r plan₀ to (omega (arith, w.within, length_copies))
      ∙ ap (λ (j : ℕ). take to plan₀ ++ r ++ drop (to + j) plan₀) n
      ∙ ap (λ (j : ℕ). take j plan₀ ++ r ++ drop (to + k) plan₀) (sym e)
      ∙ ap (λ (s : List ℕ). s ++ r ++ drop (to + k) plan₀) (take-add from (to - from) plan₀)
      ∙ simp append_assoc

  -- a number is copied from where the copy before, or the numbers themselves, have it
  ahead : k < more * (to - from) → get_or plan (from + k) 0 ≡ get_or (repeat more (between plan₀ from to)) k 0
  ahead h =
      let l : List ℕ = between plan₀ from to in
      let r : List ℕ = repeat more l in
      let f : length (take from plan₀) ≡ from = length-take-le from plan₀ (omega arith) in
      let n : length (take k r) ≡ k = length-take-le k r w.within in
      let m : length l ≡ to - from = length_between in
      let p : 0 < to - from = some_between k more (to - from) h in
      let j : k < length (l ++ take k r) = rw length-append (omega arith) in
      ap (λ (s : List ℕ). get_or s (from + k) 0) from_here
      ∙ ap (λ (i : ℕ). get_or (take from plan₀ ++ (l ++ take k r ++ drop (to + k) plan₀)) (i + k) 0) (sym f)
      ∙ get_or-append-add (take from plan₀) (l ++ take k r ++ drop (to + k) plan₀) k 0
      ∙ get_or-append (l ++ take k r) (drop (to + k) plan₀) 0 k j
      ∙ ap (λ (s : List ℕ). get_or s k 0) (sym (take-append-add l r k))
      ∙ get_or-take (length l + k) (l ++ r) k 0 (omega arith)
      ∙ ap (λ (s : List ℕ). get_or s k 0) (repeat_behind more l)
      ∙ get_or-append r l 0 k (omega (arith, length_copies))

  pub copied_more : k < more * (to - from) → Stored plan₀ (set plan (to + k) (get_or plan (from + k) 0)) (repeat more (between plan₀ from to)) to (k + 1)
  copied_more h = one_more plan₀ plan (repeat more (between plan₀ from to)) to k w (get_or plan (from + k) 0) (omega (arith, length_copies)) (ahead h)

  pub copied : more * (to - from) ≤ k → plan ≡ sets plan₀ to (repeat more (between plan₀ from to))
  copied h = all_stored plan₀ plan (repeat more (between plan₀ from to)) to k w (omega (arith, length_copies))
