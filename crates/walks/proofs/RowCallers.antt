-- What a caller knows of rows to the end: that what it has written is a plan of them, and what the walk's answer tells.
-- Assumes nothing.
use Prim.Native.Nat.{ℕ, zero, suc, ◌+◌, ◌<◌, ◌≤◌}
use mathlib.Core.Path.{◌≡◌, refl, ap, ◌∙◌}
use mathlib.Core.Bool.{Bool, true, false}
use mathlib.Core.List.{List, [], ◌∷◌, ◌++◌, map, append-nil}
use native.Mathlib.Omega.{arith}
use lib.Dec.{ltb}
use lib.ListN.{length, take, drop, length-append, length-map, length-take, drop_of_length-le}
use lib.Seq.{sets, sets-eq, length-sets, take_at, take_all}
use borrow.Author.Tests.{ltb-true, ltb-false}
use Rattle.fdoca.specs.Basics.{Result, refuse, ok, ◌>>=◌}
use Rattle.fdoca.specs.Item.{Field, Measured, refused, item, measure}
use Rattle.fdoca.specs.Walk.{Note, item_length, note_of, coming, used_up, item_then, rows_from}
use Rattle.fdoca.proofs.Tests.{by_test}
use Rattle.fields.specs.Plan.{entry_of, Proper, Planned, entry}
use Rattle.walks.specs.Marks.{Noted, nothing}
use Rattle.walks.specs.Passes.{RowPlan}

-- the numbers x, written from the plan's beginning on as far as there is room, are its first
module _ (plan x : List ℕ) where
  abbrev part : List ℕ
  part = take (length plan) x

  written : sets plan 0 part ≡ part ++ drop (0 + length part) plan
  written = sets-eq part plan 0 (omega (arith, length-take (length plan) x))

  first_written : take (length x) (sets plan 0 part) ≡ part
  first_written = written_way (ltb (length plan) (length x)) refl
    where
      written_way : (b : Bool) → ltb (length plan) (length x) ≡ b → take (length x) (sets plan 0 part) ≡ part
      written_way true t =
          let h : length plan < length x = ltb-true (length plan) (length x) t in
          let l : length plan ≤ 0 + length part = omega (arith, length-take (length plan) x) in
          let e : sets plan 0 part ≡ part = written ∙ ap (λ r. part ++ r) (drop_of_length-le plan l) ∙ append-nil part in
          ap (take (length x)) e ∙ take_all (length x) part (omega (arith, length-take (length plan) x))
      written_way false t =
          let h : length x ≤ length plan = ltb-false (length plan) (length x) t in
          ap (take (length x)) written ∙ take_at part (drop (0 + length part) plan) (length x) (omega (arith, length-take (length plan) x))

-- what the caller has written is a plan of rows to the end
pub row_plan : (plan plan' : List ℕ) (before once : ℕ) (bs rows : List Field) → Planned (map entry_of bs) bs → Planned (map entry_of rows) rows
    → length bs ≡ before → length rows ≡ once → before ≤ length plan → 0 < once → plan' ≡ sets plan 0 (take (length plan) (map entry_of (bs ++ rows)))
    → RowPlan plan' before once bs rows
row_plan plan plan' before once bs rows p q b o h k e =
    let l : length plan' ≡ length plan = ap length e ∙ length-sets plan 0 (take (length plan) (map entry_of (bs ++ rows))) in
    let n : length (map entry_of (bs ++ rows)) ≡ before + once = length-map (bs ++ rows) entry_of ∙ length-append bs rows ∙ rw (b, o) in
    record {
      proper_before = p;
      proper_rows = q;
      before_is = b;
      once_is = o;
      has_room = omega arith;
      has_rows = k;
      entries = rw (l, ← n, e) (first_written plan (map entry_of (bs ++ rows)));
    }

-- the notes are of proper fields
abbrev Told : Result (List Note) → Type 0
Told (refuse n p) = Unit {0}
Told (ok ns) = Noted ns

first_proper : {e : ℕ} {es : List ℕ} {f : Field} {fs : List Field} → Planned (e ∷ es) (f ∷ fs) → Proper f × Planned es fs
first_proper (entry h k) = (h, k)

told_then : (p : ℕ) (s : List ℕ) (others : Note → List Field → Result (List Note)) (fs : List Field) → Planned (map entry_of fs) fs
    → ((n : Note) (left : List Field) → Planned (map entry_of left) left → Told (others n left)) → Told (item_then fs p s others)
unfolding note_of
told_then p s others [] h g = nothing
told_then p s others (f ∷ fs) h g = go (measure f s)
  where
    later : (n : Note) (r : Result (List Note)) → Proper n.field → Told r → Told (r >>= λ ns. ok (n ∷ ns))
    later n (refuse k q) x t = tt
    later n (ok ns) x t = Noted.item x t

    go : (m : Measured) → Told (note_of f p m >>= λ n. others n fs >>= λ ns. ok (n ∷ ns))
    go (refused n) = tt
    go (item z l v r) = later _ (others _ fs) (first_proper h).0 (g _ fs (first_proper h).1)

proper_coming : (rows fs : List Field) → Planned (map entry_of rows) rows → Planned (map entry_of fs) fs → Planned (map entry_of (coming rows fs)) (coming rows fs)
proper_coming rows [] h k = h
proper_coming rows (f ∷ fs) h k = k

told_from : (room p : ℕ) (rows fs : List Field) (s : List ℕ) → Planned (map entry_of rows) rows → Planned (map entry_of fs) fs → Told (rows_from room p rows fs s)
unfolding rows_from
told_from zero p rows fs s h k = by_test Told (used_up fs s) (λ t. nothing) (λ t. tt)
told_from (suc room) p rows fs s h k =
    by_test Told (used_up fs s) (λ t. nothing)
    (λ t. told_then p s (λ n left. rows_from room (p + item_length n) rows left (drop (item_length n) s)) (coming rows fs) (proper_coming rows fs h k)
    (λ n left x. told_from room (p + item_length n) rows left (drop (item_length n) s) h x))

-- the notes of a good block are of proper fields
pub rows_noted : (room : ℕ) (rows fs : List Field) (s : List ℕ) (ns : List Note) → Planned (map entry_of rows) rows → Planned (map entry_of fs) fs
    → rows_from room 0 rows fs s ≡ ok ns → Noted ns
rows_noted room rows fs s ns h k e = rw e at (told_from room 0 rows fs s h k)
