-- The items of a walk: those of fs ++ gs are those of fs and then those of gs. Where the walk accepts they are the fields' in order, laid end to end
-- over the whole data, so that each byte lies in just one item; and each is what measuring at its start finds.
-- Assumes nothing.
use mathlib.Core.Path.{◌≡◌, refl, ap, ◌∙◌}
use Prim.Native.Nat.{ℕ, zero, suc, ◌+◌, ◌≤◌, ◌<◌}
use native.Mathlib.Omega.{arith}
use mathlib.Core.Bool.{Bool, true, false}
use mathlib.Core.List.{List, [], ◌∷◌, ◌++◌, map}
use mathlib.Core.Option.{some}
use lib.Dec.{ltb}
use lib.ListN.{length, drop, get_or, get_elem?, length-drop, length-map}
use lib.Seq.{drop-drop}
use borrow.Author.Tests.{ltb-true, ltb-false}
use Rattle.fdoca.specs.Basics.{Result, refuse, ok, ◌>>=◌}
use Rattle.fdoca.specs.Item.{Field, Measured, refused, item, measure}
use Rattle.fdoca.specs.Walk.{Note, item_length, Cut, note_of, with, cut_from, walk}
use Rattle.fdoca.specs.Between.{Stands}
use Rattle.fdoca.specs.Cover.{sum, positions, lengths, InItem}
use Rattle.fdoca.proofs.Within.{Within, within}
use Rattle.fdoca.proofs.Results.{IfOk, none_owed, holds, bind_all, reject_all, ok_of}

-- the items of the fields fs, cut from s at p
pub record Covers (p : ℕ) (fs : List Field) (s : List ℕ) (c : Cut) : Type 0 where
  pub total : sum (lengths c.notes) + length c.rest ≡ length s
  pub finish : c.end ≡ p + sum (lengths c.notes)
  pub rest_is : c.rest ≡ drop (sum (lengths c.notes)) s
  pub starts : map (λ i. i.start) c.notes ≡ positions p (lengths c.notes)
  pub fields : map (λ i. i.field) c.notes ≡ fs

-- a note of the field f, of an item within s
record Notes (f : Field) (p : ℕ) (s : List ℕ) (n : Note) : Type 0 where
  start_is : n.start ≡ p
  field_is : n.field ≡ f
  fits : item_length n ≤ length s

notes_field : (f : Field) (p : ℕ) (s : List ℕ) (m : Measured) → Within (length s) m → IfOk (Notes f p s) (note_of f p m)
unfolding note_of
notes_field f p s (refused k) h = none_owed
notes_field f p s (item z l v r) h = holds (record { start_is = refl; field_is = refl; fits = h })

covers_from : (p : ℕ) (fs : List Field) (s : List ℕ) → IfOk (Covers p fs s) (cut_from p fs s)
unfolding cut_from
covers_from p [] s =
    let k : Covers p [] s (record { notes = []; end = p; rest = s }) =
    record { total = omega arith; finish = omega arith; rest_is = refl; starts = refl; fields = refl } in
    holds k
covers_from p (f ∷ fs) s =
    bind_all (note_of f p (measure f s)) (notes_field f p s (measure f s) (within f s))
    (λ n h. bind_all (cut_from (p + item_length n) fs (drop (item_length n) s)) (covers_from (p + item_length n) fs (drop (item_length n) s))
    (λ c k. let r : Covers p (f ∷ fs) s (with n c) = record {
      total = omega (arith, k.total, h.fits, length-drop (item_length n) s);
      finish = omega (arith, k.finish);
      rest_is = k.rest_is ∙ drop-drop (sum (lengths c.notes)) (item_length n) s;
      starts = rw (h.start_is, k.starts);
      fields = rw (h.field_is, k.fields);
    } in
    holds r))

pub cut_covers : (p : ℕ) (fs : List Field) (s : List ℕ) (c : Cut) → cut_from p fs s ≡ ok c → Covers p fs s c
cut_covers p fs s c e = ok_of (rw e at (covers_from p fs s))

-- what is noted of an accepted block
pub record Walked (fs : List Field) (s : List ℕ) (ns : List Note) : Type 0 where
  pub total : sum (lengths ns) ≡ length s
  pub starts : map (λ i. i.start) ns ≡ positions 0 (lengths ns)
  pub fields : map (λ i. i.field) ns ≡ fs

walked : (fs : List Field) (s : List ℕ) → IfOk (Walked fs s) (walk fs s)
unfolding walk
walked fs s =
    bind_all (cut_from 0 fs s) (covers_from 0 fs s)
    (λ c k. reject_all (ltb 0 (length c.rest)) 16 c.end
    (λ h. let r : Walked fs s c.notes =
    record { total = omega (arith, k.total, ltb-false 0 (length c.rest) h); starts = k.starts; fields = k.fields } in
    holds r))

pub walk_covers : (fs : List Field) (s : List ℕ) (ns : List Note) → walk fs s ≡ ok ns → Walked fs s ns
walk_covers fs s ns e = ok_of (rw e at (walked fs s))

-- Pieces of the lengths ls, laid end to end from p on: the place i lies in piece k.
record InPiece (p : ℕ) (ls : List ℕ) (i k : ℕ) : Type 0 where
  among : k < length ls
  after : get_or (positions p ls) k 0 ≤ i
  before : i < get_or (positions p ls) k 0 + get_or ls k 0

next_piece : {p n i k : ℕ} {ls : List ℕ} → InPiece (p + n) ls i k → InPiece p (n ∷ ls) i (suc k)
next_piece h = record { among = omega (arith, h.among); after = h.after; before = h.before }

earlier_piece : {p n i k : ℕ} {ls : List ℕ} → InPiece p (n ∷ ls) i (suc k) → InPiece (p + n) ls i k
earlier_piece h = record { among = omega (arith, h.among); after = h.after; before = h.before }

in_a_piece : (p : ℕ) (ls : List ℕ) (i : ℕ) → p ≤ i → i < p + sum ls → (k : ℕ) × InPiece p ls i k
in_a_piece p [] i h l = absurd (let z : ⊥ = omega arith in z)
in_a_piece p (n ∷ ls) i h l = go (ltb i (p + n)) refl (λ a b. in_a_piece (p + n) ls i a b)
  where
    go : (b : Bool) → ltb i (p + n) ≡ b → (p + n ≤ i → i < p + n + sum ls → (k : ℕ) × InPiece (p + n) ls i k)
        → (k : ℕ) × InPiece p (n ∷ ls) i k
    go true t ih = (0, record { among = omega arith; after = h; before = ltb-true i (p + n) t })
    go false t ih = let r = ih (ltb-false i (p + n) t) (omega arith) in (suc r.0, next_piece r.1)

-- a piece starts behind those before it
piece_after : (p : ℕ) (ls : List ℕ) (k : ℕ) → k < length ls → p ≤ get_or (positions p ls) k 0
piece_after p [] k h = absurd (let z : ⊥ = omega arith in z)
piece_after p (n ∷ ls) zero h = omega arith
piece_after p (n ∷ ls) (suc k) h = let q : p + n ≤ get_or (positions (p + n) ls) k 0 = piece_after (p + n) ls k (omega arith) in omega arith

one_piece : (p : ℕ) (ls : List ℕ) (i j k : ℕ) → InPiece p ls i j → InPiece p ls i k → j ≡ k
one_piece p [] i j k a b = absurd (let z : ⊥ = omega (arith, a.among) in z)
one_piece p (n ∷ ls) i zero zero a b = refl
one_piece p (n ∷ ls) i zero (suc k) a b =
    absurd (let z : ⊥ = omega (arith, a.before, b.after, piece_after (p + n) ls k (omega (arith, b.among))) in z)
one_piece p (n ∷ ls) i (suc j) zero a b =
    absurd (let z : ⊥ = omega (arith, b.before, a.after, piece_after (p + n) ls j (omega (arith, a.among))) in z)
one_piece p (n ∷ ls) i (suc j) (suc k) a b = ap suc (one_piece (p + n) ls i j k (earlier_piece a) (earlier_piece b))

module _ (fs : List Field) (s : List ℕ) (ns : List Note) (e : walk fs s ≡ ok ns) where
  -- Each byte of an accepted block lies in an item,
  pub in_an_item : (i : ℕ) → i < length s → (k : ℕ) × InItem ns i k
  in_an_item i h =
      let w : Walked fs s ns = walk_covers fs s ns e in
      let q = in_a_piece 0 (lengths ns) i (omega arith) (omega (arith, w.total)) in
      let l : length (lengths ns) ≡ length ns = length-map ns (λ x. item_length x) in
      (q.0, record { among = omega (arith, q.1.among); after = rw w.starts q.1.after; before = rw w.starts q.1.before })

  -- and in no other.
  pub in_one_item : (i j k : ℕ) → InItem ns i j → InItem ns i k → j ≡ k
  in_one_item i j k a b = one_piece 0 (lengths ns) i j k (piece j a) (piece k b)
    where
      piece : (k : ℕ) → InItem ns i k → InPiece 0 (lengths ns) i k
      piece k a =
          let w : Walked fs s ns = walk_covers fs s ns e in
          let l : length (lengths ns) ≡ length ns = length-map ns (λ x. item_length x) in
          record { among = omega (arith, a.among); after = rw w.starts at a.after; before = rw w.starts at a.before }

-- two cuts, one behind the other
abbrev pub joined : Cut → Cut → Cut
joined c d = record { notes = c.notes ++ d.notes; end = d.end; rest = d.rest }

joined_ok : (c : Cut) (n : Note) (r : Result Cut)
    → ((r >>= (λ d. ok (joined c d))) >>= (λ e. ok (with n e))) ≡ (r >>= (λ d. ok (joined (with n c) d)))
joined_ok c n (refuse k q) = refl
joined_ok c n (ok d) = refl

with_joined : (n : Note) (Q : ℕ → List ℕ → Result Cut) (r : Result Cut)
    → ((r >>= (λ c. Q c.end c.rest >>= (λ d. ok (joined c d)))) >>= (λ e. ok (with n e)))
    ≡ ((r >>= (λ c. ok (with n c))) >>= (λ c. Q c.end c.rest >>= (λ d. ok (joined c d))))
with_joined n Q (refuse k q) = refl
with_joined n Q (ok c) = joined_ok c n (Q c.end c.rest)

none_joined : (p : ℕ) (s : List ℕ) (r : Result Cut) → r ≡ (r >>= (λ d. ok (joined (record { notes = []; end = p; rest = s }) d)))
none_joined p s (refuse k q) = refl
none_joined p s (ok d) = refl

-- The items of fs ++ gs are those of fs, and then those of gs from there on.
pub cut_append : (p : ℕ) (fs gs : List Field) (s : List ℕ)
    → cut_from p (fs ++ gs) s ≡ (cut_from p fs s >>= (λ c. cut_from c.end gs c.rest >>= (λ d. ok (joined c d))))
unfolding cut_from
cut_append p [] gs s = none_joined p s (cut_from p gs s)
cut_append p (f ∷ fs) gs s = go (note_of f p (measure f s)) (λ q t. cut_append q fs gs t)
  where
    go : (r : Result Note)
        → ((q : ℕ) (t : List ℕ) → cut_from q (fs ++ gs) t ≡ (cut_from q fs t >>= (λ c. cut_from c.end gs c.rest >>= (λ d. ok (joined c d)))))
        → (r >>= (λ n. cut_from (p + item_length n) (fs ++ gs) (drop (item_length n) s) >>= (λ c. ok (with n c))))
        ≡ ((r >>= (λ n. cut_from (p + item_length n) fs (drop (item_length n) s) >>= (λ c. ok (with n c))))
        >>= (λ c. cut_from c.end gs c.rest >>= (λ d. ok (joined c d))))
    go (refuse k q) ih = refl
    go (ok n) ih =
        ap (λ x. x >>= (λ c. ok (with n c))) (ih (p + item_length n) (drop (item_length n) s))
        ∙ with_joined n (λ q t. cut_from q gs t) (cut_from (p + item_length n) fs (drop (item_length n) s))

pub data Standing (s : List ℕ) : List Note → Type 0 where
  none_left : Standing s []
  one_more : {n : Note} {ns : List Note} → Stands s n → Standing s ns → Standing s (n ∷ ns)

stands_note : (f : Field) (p : ℕ) (s : List ℕ) → p ≤ length s → IfOk (λ n. Stands s n × (p + item_length n ≤ length s)) (note_of f p (measure f (drop p s)))
unfolding note_of
stands_note f p s h = go (measure f (drop p s)) refl (within f (drop p s))
  where
    go : (m : Measured) → measure f (drop p s) ≡ m → Within (length (drop p s)) m → IfOk (λ n. Stands s n × (p + item_length n ≤ length s)) (note_of f p m)
    go (refused n) e w = none_owed
    go (item z l v r) e w =
        let a : Stands s (record { start = p; field = f; is_null = z; lead = l; value = v; spare = r }) = record { starts = h; measured = e } in
        let b : p + (l + v + r) ≤ length s = omega (arith, w, length-drop p s) in
        holds (a, b)

standing_from : (p : ℕ) (fs : List Field) (s : List ℕ) → p ≤ length s → IfOk (λ c. Standing s c.notes) (cut_from p fs (drop p s))
unfolding cut_from
standing_from p [] s h = holds none_left
standing_from p (f ∷ fs) s h =
    bind_all (note_of f p (measure f (drop p s))) (stands_note f p s h)
    (λ n k. rw (drop-drop (item_length n) p s)
    (bind_all (cut_from (p + item_length n) fs (drop (p + item_length n) s)) (standing_from (p + item_length n) fs s k.1)
    (λ c q. let r : Standing s (with n c).notes = one_more k.0 q in holds r)))

all_standing : (fs : List Field) (s : List ℕ) → IfOk (Standing s) (walk fs s)
unfolding walk
all_standing fs s =
    bind_all (cut_from 0 fs s) (standing_from 0 fs s (omega arith))
    (λ c k. reject_all (ltb 0 (length c.rest)) 16 c.end (λ h. holds k))

pub standing : (fs : List Field) (s : List ℕ) (ns : List Note) → walk fs s ≡ ok ns → Standing s ns
standing fs s ns e = ok_of (rw e at (all_standing fs s))

pub nth_stands : {s : List ℕ} {ns : List Note} → Standing s ns → (k : ℕ) (n : Note) → get_elem? ns k ≡ some n → Stands s n
nth_stands none_left k n e = absurd (let z : ◌≡◌ {A = ℕ} 0 1 = cc in let o : ⊥ = omega arith in o)
nth_stands (one_more {n = x} h t) zero n e = let a : x ≡ n = cc in rw (← a) h
nth_stands (one_more h t) (suc k) n e = nth_stands t k n e
