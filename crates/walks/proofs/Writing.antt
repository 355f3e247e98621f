-- Writing the item list: k positions and k ids are written, the entries for the others are still to come.
-- Assumes nothing.
use Prim.Native.Nat.{ℕ, suc, ◌+◌, ◌*◌, ◌/◌, ◌%◌, ◌<◌, ◌≤◌}
use mathlib.Core.Path.{◌≡◌, refl, sym, ap, ◌∙◌}
use mathlib.Core.List.{List, [], ◌∷◌, ◌++◌, map, map-append, append_assoc, append-nil}
use native.Mathlib.Numerals.{add-one}
use native.Mathlib.Omega.{arith}
use lib.ListN.{length, get_or, set, take, drop, length-append, length-map, length-take, length-drop, take-append-drop, length-set}
use lib.Seq.{take-suc, take_all, set_at, length-take-le, take-add, drop-set-lt}
use Rattle.fdoca.specs.Walk.{Note}
use Rattle.fdoca.specs.Calls.{item_list}
use Rattle.walks.specs.Marks.{mark_of, start_in, id_in, list_by, Noted, nothing, item}
use Rattle.walks.proofs.Parts.{id_part, mark_part}

no_gaps : (x y z : List ℕ) → x ++ [] ++ y ++ [] ++ z ≡ x ++ y ++ z
no_gaps x y z = ap (λ t. t ++ y ++ [] ++ z) (append-nil x) ∙ ap (λ t. t ++ z) (append-nil (x ++ y))

-- the list l, which was `old` when its first two entries stood; `gap` and `room` are for the positions and ids to come
pub record Writing (es old l : List ℕ) (k : ℕ) : Type 0 where
  pub gap : List ℕ
  pub room : List ℕ
  pub gap_long : k + length gap ≡ length es
  pub room_long : k + length room ≡ length es
  pub has_head : 2 ≤ length old
  pub list_is : l ≡ (take 2 old ++ map start_in (take k es)) ++ gap ++ map id_in (take k es) ++ room ++ drop (2 + 2 * length es) old

pub write_start : (es old : List ℕ) → 2 + 2 * length es ≤ length old → Writing es old old 0
write_start es old h =
    let n : ℕ = length es in
    let e : 2 + length es + length es ≡ 2 + 2 * length es = omega arith in
    record {
      gap = take n (drop 2 old);
      room = take n (drop (2 + n) old);
      gap_long = omega (arith, length-take n (drop 2 old), length-drop 2 old);
      room_long = omega (arith, length-take n (drop (2 + n) old), length-drop (2 + n) old);
      has_head = omega arith;
      list_is = sym (ap (λ t. t ++ drop (2 + 2 * n) old)
          (no_gaps (take 2 old) (take n (drop 2 old)) (take n (drop (2 + n) old))
          ∙ ap (λ t. t ++ take n (drop (2 + n) old)) (sym (take-add 2 n old))
          ∙ sym (take-add (2 + n) n old)
          ∙ ap (λ t. take t old) e)
          ∙ take-append-drop (2 + 2 * n) old);
    }

-- a position and an id, written at the beginnings of the gap and of the room
two_written : (x g y r z : List ℕ) (i j v w : ℕ) → length x ≡ i → length x + length g + length y ≡ j → 0 < length g → 0 < length r
    → set (set (x ++ g ++ y ++ r ++ z) i v) j w ≡ (x ++ v ∷ []) ++ drop 1 g ++ (y ++ w ∷ []) ++ drop 1 r ++ z
two_written x [] y r z i j v w a b c d = absurd (let o : ⊥ = omega arith in o)
two_written x (g ∷ gs) y [] z i j v w a b c d = absurd (let o : ⊥ = omega arith in o)
two_written x (g ∷ gs) y (r ∷ rs) z i j v w a b c d =
    let k : x ++ (g ∷ gs) ++ y ++ (r ∷ rs) ++ z ≡ x ++ g ∷ (gs ++ (y ++ (r ∷ (rs ++ z)))) = simp append_assoc in
    let l : x ++ v ∷ (gs ++ (y ++ (r ∷ (rs ++ z)))) ≡ (x ++ v ∷ (gs ++ y)) ++ r ∷ (rs ++ z) = simp append_assoc in
    let m : (x ++ v ∷ (gs ++ y)) ++ w ∷ (rs ++ z) ≡ (x ++ v ∷ []) ++ gs ++ (y ++ w ∷ []) ++ rs ++ z = simp append_assoc in
    let n : length (x ++ v ∷ (gs ++ y)) ≡ j = length-append x (v ∷ (gs ++ y)) ∙ omega (arith, length-append gs y) in
    ap (λ t. set (set t i v) j w) k ∙ ap (λ t. set t j w) (set_at x g (gs ++ (y ++ (r ∷ (rs ++ z)))) v i a ∙ l)
    ∙ set_at (x ++ v ∷ (gs ++ y)) r (rs ++ z) w j n ∙ m

more : (es old l : List ℕ) (k v : ℕ) → k < length es → v ≡ get_or es k 0 / 281474976710656 → Writing es old l k
    → Writing es old (set (set l (2 + k) v) (2 + length es + k) (get_or es k 0 / 65536 % 256)) (suc k)
more es old l k v h e w =
    let x : List ℕ = take 2 old ++ map start_in (take k es) in
    let t : length (take k es) ≡ k = length-take-le k es (omega arith) in
    let a : length (take 2 old ++ map start_in (take k es)) ≡ 2 + k =
    simp (length-append, length-map) (omega (arith, length-take-le 2 old w.has_head)) in
    let b : length (map id_in (take k es)) ≡ k = length-map (take k es) id_in ∙ t in
    record {
      gap = drop 1 w.gap;
      room = drop 1 w.room;
      gap_long = omega (arith, w.gap_long, length-drop 1 w.gap);
      room_long = omega (arith, w.room_long, length-drop 1 w.room);
      has_head = w.has_head;
      list_is = ap (λ y. set (set y (2 + k) v) (2 + length es + k) (id_in (get_or es k 0))) w.list_is
          ∙ two_written x w.gap (map id_in (take k es)) w.room (drop (2 + 2 * length es) old)
          (2 + k) (2 + length es + k) v (id_in (get_or es k 0)) a
          (omega (arith, w.gap_long, a, b)) (omega (arith, w.gap_long)) (omega (arith, w.room_long))
          ∙ simp (e, take-suc es k 0 h, map-append, append_assoc);
    }

pub write_more : (es old l : List ℕ) (k v : ℕ) → k < length es → v ≡ get_or es k 0 / 281474976710656 → Writing es old l k
    → Writing es old (set (set l (2 + k) v) (2 + length es + k) (get_or es k 0 / 65536 % 256)) (k + 1)
write_more es old l k v h e w = rw add-one (more es old l k v h e w)

-- a marked plan's positions and ids are those that were noted
marked_starts : {ns : List Note} → Noted ns → map start_in (map mark_of ns) ≡ map (λ i. i.start) ns
unfolding mark_of
marked_starts nothing = refl
marked_starts (item {n} {ns} h t) = rw (mark_part n.field n.start h, marked_starts t)

marked_ids : {ns : List Note} → Noted ns → map id_in (map mark_of ns) ≡ map (λ i. i.field.id) ns
unfolding mark_of
marked_ids nothing = refl
marked_ids (item {n} {ns} h t) = rw (id_part n.field n.start h, marked_ids t)

empty : (l : List ℕ) → length l ≡ 0 → l ≡ []
empty [] h = refl
empty (x ∷ l) h = absurd (let z : ⊥ = omega arith in z)

headed : (n size : ℕ) (old : List ℕ) → 2 ≤ length old → take 2 (set (set old 0 n) 1 size) ≡ n ∷ size ∷ []
headed n size [] h = absurd (let z : ⊥ = omega arith in z)
headed n size (a ∷ []) h = absurd (let z : ⊥ = omega arith in z)
headed n size (a ∷ b ∷ old) h = refl

pub write_done : (es : List ℕ) (size : ℕ) (old l : List ℕ) (k : ℕ) → 2 + 2 * length es ≤ length old → length es ≤ k
    → Writing es (set (set old 0 (length es)) 1 size) l k → l ≡ list_by es size old
unfolding list_by
write_done es size old l k o h w =
    let g : w.gap ≡ [] = empty w.gap (omega (arith, w.gap_long)) in
    let r : w.room ≡ [] = empty w.room (omega (arith, w.room_long)) in
    let c : take 2 (set (set old 0 (length es)) 1 size) ≡ length es ∷ size ∷ [] = headed (length es) size old (omega arith) in
    let d : drop (2 + 2 * length es) (set (set old 0 (length es)) 1 size) ≡ drop (2 + 2 * length es) old =
    drop-set-lt (2 + 2 * length es) (set old 0 (length es)) 1 size (omega arith) ∙ drop-set-lt (2 + 2 * length es) old 0 (length es) (omega arith) in
    w.list_is ∙ simp (g, r, take_all k es h, c, d) (no_gaps (length es ∷ size ∷ map start_in es) (map id_in es) (drop (2 + 2 * length es) old))

-- the list by the marks of a good block is the item list
pub list_by_marks : (es : List ℕ) (size : ℕ) (old : List ℕ) (ns : List Note) → Noted ns → es ≡ map mark_of ns → list_by es size old ≡ item_list (length ns) size ns old
unfolding list_by
list_by_marks es size old ns t e = rw (e, length-map, marked_starts t, marked_ids t)

-- two entries written keep the list's length
pub room_kept : (l es : List ℕ) (i j v w : ℕ) → 2 + 2 * length es ≤ length l → 2 + 2 * length es ≤ length (set (set l i v) j w)
room_kept l es i j v w h = rw (length-set, length-set) h

pub long_kept : (l old : List ℕ) (i j v w : ℕ) → length l ≡ length (set (set old i v) j w) → length l ≡ length old
long_kept l old i j v w h = h ∙ length-set (set old i v) j w ∙ length-set old i v

pub ruleset write_ways = (room_kept, write_start, write_more, write_done)
