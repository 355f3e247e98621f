-- The walk and the rows of document 01's table that speak of a block's items: it refuses with the number and the place of the first reason in 01's
-- order, and where it accepts there is no reason. The item k of an accepted block starts where its note says, and nowhere else.
-- Assumes nothing.
use mathlib.Core.Path.{◌≡◌, refl, sym, ap, ◌∙◌, subst}
use mathlib.Core.Logic.{◌⊎◌, inl, inr}
use Prim.Native.Nat.{ℕ, suc, ◌+◌, ◌≤◌, ◌<◌}
use native.Mathlib.Nat.{eq-or-lt_of_le}
use native.Mathlib.Omega.{arith}
use mathlib.Core.Bool.{Bool, true, false}
use mathlib.Core.List.{List, [], ◌∷◌, ◌++◌}
use mathlib.Core.Option.{some}
use lib.Dec.{ltb}
use lib.ListN.{length, take, drop, get_or, get_elem?, length-map}
use lib.Seq.{length-take-le, split_at, take_at, drop_at}
use borrow.Author.Tests.{ltb-true, ltb-false}
use Rattle.fdoca.specs.Basics.{Result, refuse, ok, ◌>>=◌, ◌>>◌, reject}
use Rattle.fdoca.specs.Item.{Field, Measured, refused, item, measure}
use Rattle.fdoca.specs.Walk.{Note, item_length, Cut, note_of, with, cut_from, walk}
use Rattle.fdoca.specs.Account.{Parts, Block, done, next}
use Rattle.fdoca.specs.Cover.{note_of_parts, notes_of}
use Rattle.fdoca.specs.Reasons.{OfItem, StartsAt, OfItems, surplus, Earlier, here, further, First}
use Rattle.fdoca.proofs.Table.{is_there}
use Rattle.fdoca.proofs.Results.{IfOk, holds, bind_all, itself, ok_of, ok_bind, ok_reject}
use Rattle.fdoca.proofs.Cover.{joined, cut_append, walk_covers}
use Rattle.fdoca.proofs.Stops.{StopsAt, Stopped, at_item, walk_stops}
use Rattle.fdoca.proofs.Blocks.{CutBlock, cut_block, cut_parts}
use Rattle.fdoca.proofs.Fields.{GoodField, mode_known, AllGood, good_at}
use Rattle.fdoca.proofs.ItemTests.{Earliest}
use Rattle.fdoca.proofs.ItemRows.{item_no_reason, item_first_reason}

-- two ways to take a list apart at an element
pub same_place : {A : Type 0} (b c : List A) (x y : A) (d e : List A) → b ++ (x ∷ d) ≡ c ++ (y ∷ e) → length b ≡ length c → (b ≡ c) × (x ≡ y)
same_place b c x y d e h n =
    let k : b ≡ c = sym (take_at b (x ∷ d) (length c) n) ∙ ap (take (length c)) h ∙ take_at c (y ∷ e) (length c) refl in
    let l : x ∷ d ≡ y ∷ e = sym (drop_at b (x ∷ d) (length c) n) ∙ ap (drop (length c)) h ∙ drop_at c (y ∷ e) (length c) refl in
    (k, cc)

pub earlier_place : {A : Type 0} (b c : List A) (x y : A) (d e : List A) → b ++ (x ∷ d) ≡ c ++ (y ∷ e) → length b < length c
    → (more : List A) × (c ≡ b ++ (x ∷ more))
earlier_place [] [] x y d e h n = absurd (let z : ⊥ = omega arith in z)
earlier_place [] (a ∷ c) x y d e h n = (c, cc)
earlier_place (a ∷ b) [] x y d e h n = absurd (let z : ⊥ = omega arith in z)
earlier_place (a ∷ b) (a' ∷ c) x y d e h n =
    let q = earlier_place b c x y d e (cc) (omega arith) in
    let l : c ≡ b ++ (x ∷ q.0) = q.1 in
    (q.0, cc)

-- An item starts where the cut of the fields before it ends,
pub starts_of : (fs : List Field) (s : List ℕ) (before : List Field) (f : Field) (after : List Field) (c : Cut) → fs ≡ before ++ (f ∷ after)
    → cut_from 0 before s ≡ ok c → StartsAt fs s (length before) f c.end c.rest
starts_of fs s before f after c h e =
    let k = cut_parts 0 before s c e in
    record {
      before = before;
      after = after;
      fields = h;
      number = refl;
      items = k.parts;
      bytes = k.bytes;
      block = k.block;
      split = k.split;
      place_is = omega (arith, k.end_is);
    }

-- and the fields of items are cut down to the bytes behind these.
abbrev pub cut_of : List Field → List Parts → (end : ℕ) → (rest : List ℕ) → Cut
cut_of fs xs q rest = record { notes = notes_of 0 fs xs; end = q; rest = rest }

pub cut_to : {fs : List Field} {s : List ℕ} {xs : List Parts} {bytes rest : List ℕ} {q : ℕ} → Block fs xs bytes → s ≡ bytes ++ rest → length bytes ≡ q
    → cut_from 0 fs s ≡ ok (cut_of fs xs q rest)
cut_to {fs} {s} {xs} {bytes} {rest} {q} b h e =
    let n : 0 + length bytes ≡ q = omega arith in
    rw h (rw n at (cut_block 0 fs xs bytes rest b))

pub same_ok : {A : Type 0} {r : Result A} {a b : A} → r ≡ ok a → r ≡ ok b → a ≡ b
same_ok h k = cc

pub cut_there : {fs : List Field} {s : List ℕ} {xs : List Parts} {bytes rest : List ℕ} → Block fs xs bytes → s ≡ bytes ++ rest
    → (c : Cut) → cut_from 0 fs s ≡ ok c → (c.end ≡ length bytes) × (c.rest ≡ rest)
cut_there b h c e = let d = same_ok e (cut_to b h refl) in (ap (λ c. c.end) d, ap (λ c. c.rest) d)

-- what was noted is an item
pub noted_as : (f : Field) (q : ℕ) (y : Measured) (n : Note) → note_of f q y ≡ ok n
    → (z : Bool) × (p : ℕ) × (v : ℕ) × (r : ℕ) × (y ≡ item z p v r) × (n.field ≡ f) × (n.start ≡ q)
unfolding note_of
noted_as f q (refused m) n e = absurd (let z : ◌≡◌ {A = ℕ} 0 1 = cc in let w : ⊥ = omega arith in w)
noted_as f q (item z p v r) n e =
    let k : n ≡ record { start = q; field = f; is_null = z; lead = p; value = v; spare = r } = cc in
    (z, p, v, r, refl, ap (λ i. i.field) k, ap (λ i. i.start) k)

module _ {fs : List Field} {s : List ℕ} {k q : ℕ} {f : Field} {rest : List ℕ} (x : StartsAt fs s k f q rest) where
  abbrev found : Cut
  found = cut_of x.before x.items q rest

  cut_before : cut_from 0 x.before s ≡ ok found
  cut_before = cut_to x.block x.split x.place_is

  -- Where its field is cut too, the item is noted.
  record Noted (before : List Note) (c : Cut) : Type 0 where
    note : Note
    later : List Note
    noted : note_of f q (measure f rest) ≡ ok note
    notes_are : c.notes ≡ before ++ (note ∷ later)

  cut_first : (more : List Field) → IfOk (Noted []) (cut_from q (f ∷ more) rest)
  unfolding cut_from
  cut_first more =
      bind_all (note_of f q (measure f rest)) (itself (note_of f q (measure f rest)))
      (λ n h. bind_all (cut_from (q + item_length n) more (drop (item_length n) rest)) (itself (cut_from (q + item_length n) more (drop (item_length n) rest)))
      (λ c e. let r : Noted [] (with n c) = record { note = n; later = c.notes; noted = h; notes_are = refl } in holds r))

  cut_with : (more : List Field) → IfOk (Noted found.notes) (cut_from 0 (x.before ++ (f ∷ more)) s)
  cut_with more =
      rw (cut_append 0 x.before (f ∷ more) s, cut_before)
      (bind_all (cut_from q (f ∷ more) rest) (cut_first more)
      (λ d k. let r : Noted found.notes (joined found d) =
      record { note = k.note; later = k.later; noted = k.noted; notes_are = ap (λ l. found.notes ++ l) k.notes_are } in
      holds r))

  field_good : AllGood fs → GoodField f
  field_good g = good_at x.before f x.after (rw x.fields at g)

  -- and then it is an item, against which there is no reason.
  pub none_against : AllGood fs → (more : List Field) (c : Cut) → cut_from 0 (x.before ++ (f ∷ more)) s ≡ ok c → (step m : ℕ) → OfItem f rest step m → ⊥
  none_against g more c e =
      let n : Noted found.notes c = ok_of (rw e at (cut_with more)) in
      let (z, p, v, r, h, _, _) = noted_as f q (measure f rest) n.note n.noted in
      item_no_reason f (field_good g).typed (mode_known (field_good g)) rest z p v r h

  all_cut : (c : Cut) → cut_from 0 fs s ≡ ok c → cut_from 0 (x.before ++ (f ∷ x.after)) s ≡ ok c
  all_cut c e = sym (ap (λ l. cut_from 0 l s) x.fields) ∙ e

-- what the walk accepts is cut, with nothing behind it
pub walk_cut : (fs : List Field) (s : List ℕ) (ns : List Note) → walk fs s ≡ ok ns
    → (c : Cut) × (cut_from 0 fs s ≡ ok c) × (length c.rest ≤ 0) × (c.notes ≡ ns)
unfolding walk
walk_cut fs s ns e =
    let (c, h, k) = ok_bind (cut_from 0 fs s) (λ c. reject (ltb 0 (length c.rest)) 16 c.end >> ok c.notes) ns e in
    let (t, o) = ok_reject (ltb 0 (length c.rest)) 16 c.end (ok c.notes) ns k in
    (c, h, ltb-false 0 (length c.rest) t, same_ok refl o)

-- Where the walk accepts, no row speaks of the block's items.
pub items_none : (fs : List Field) (s : List ℕ) (ns : List Note) → AllGood fs → walk fs s ≡ ok ns → (t : List ℕ) (m p : ℕ) → OfItems fs s t m p → ⊥
items_none fs s ns g e t m p w = let (c, h, k, _) = walk_cut fs s ns e in go c h k w
  where
    go : (c : Cut) → cut_from 0 fs s ≡ ok c → length c.rest ≤ 0 → {t : List ℕ} {m p : ℕ} → OfItems fs s t m p → ⊥
    go c h k (OfItems.item x r) = none_against x g x.after c (all_cut x c h) _ _ r
    go c h k (surplus rest b l n) = omega (arith, ap length (cut_there b l c h).1)

module _ (fs : List Field) (s : List ℕ) (g : AllGood fs) where
  first_surplus : (c : Cut) → cut_from 0 fs s ≡ ok c → 0 < length c.rest → First (OfItems fs s) 16 c.end
  first_surplus c h k =
      let b : CutBlock 0 fs s c = cut_parts 0 fs s c h in
      let n : length b.bytes ≡ c.end = omega (arith, b.end_is) in
      record { turn = 6 ∷ []; reason = rw n at (surplus c.rest b.block b.split k); others_later = λ t m q w. later w }
    where
      later : {t : List ℕ} {m q : ℕ} → OfItems fs s t m q → Earlier (6 ∷ []) t ⊎ ((t ≡ 6 ∷ []) × (m ≡ 16) × (q ≡ c.end))
      later (OfItems.item {step = i} {m = m} x r) = absurd (none_against x g x.after c (all_cut x c h) i m r)
      later (surplus rest b l n) = inr (refl, refl, sym (cut_there b l c h).0)

  module _ {m p : ℕ} (h : StopsAt 0 fs s m p) where
    pub start : StartsAt fs s (length h.before) h.field h.good.end h.good.rest
    start = starts_of fs s h.before h.field h.after h.good h.fields h.cut

    pub earliest : Earliest (OfItem h.field h.good.rest) m
    earliest =
        let k : GoodField h.field = field_good start g in
        item_first_reason h.field k.typed (mode_known k) h.good.rest m h.reason

    abbrev pub turn : List ℕ
    turn = 5 ∷ length h.before ∷ earliest.step ∷ []

    abbrev pub Later : List ℕ → ℕ → ℕ → Type 0
    Later t n q = Earlier turn t ⊎ ((t ≡ turn) × (n ≡ m) × (q ≡ p))

    -- no item before has a reason; of the same one it comes later, or is the same
    pub item_later : {k i n q : ℕ} {f : Field} {rest : List ℕ} → StartsAt fs s k f q rest → OfItem f rest i n
        → Later (5 ∷ k ∷ i ∷ []) n q
    item_later {k} {i} {n} {q} {f} {rest} x r = go (ltb k (length h.before)) refl
      where
        both : x.before ++ (f ∷ x.after) ≡ h.before ++ (h.field ∷ h.after)
        both = sym x.fields ∙ h.fields

        same_step : length h.before ≡ k → (earliest.step ≡ i) ⊎ (earliest.step < i) → (i ≡ earliest.step → n ≡ m) → q ≡ p
            → Later (5 ∷ k ∷ i ∷ []) n q
        same_step e (inr l) o c = inl (rw e (further (further (here l))))
        same_step e (inl l) o c = inr (rw (e, l), o (sym l), c)

        same_item : length h.before ≡ k → Later (5 ∷ k ∷ i ∷ []) n q
        same_item e =
            let (b, y) = same_place x.before h.before f h.field x.after h.after both (omega (arith, x.number)) in
            let (c, d) = cut_there x.block x.split h.good (ap (λ l. cut_from 0 l s) b ∙ h.cut) in
            let r' : OfItem h.field h.good.rest i n = rw (y, ← d) at r in
            let o = earliest.others i n r' in
            same_step e (eq-or-lt_of_le o.0) o.1 (omega (arith, x.place_is, h.place))

        next : (length h.before ≡ k) ⊎ (length h.before < k) → Later (5 ∷ k ∷ i ∷ []) n q
        next (inl e) = same_item e
        next (inr l) = inl (further (here l))

        go : (b : Bool) → ltb k (length h.before) ≡ b → Later (5 ∷ k ∷ i ∷ []) n q
        go true t =
            let l : length x.before < length h.before = omega (arith, ltb-true k (length h.before) t, x.number) in
            let (more, e) = earlier_place x.before h.before f h.field x.after h.after both l in
            absurd (none_against x g more h.good (sym (ap (λ l. cut_from 0 l s) e) ∙ h.cut) i n r)
        go false t = next (eq-or-lt_of_le (ltb-false k (length h.before) t))

    first_item : First (OfItems fs s) m p
    first_item =
        record {
          turn = turn;
          reason = subst (λ q. OfItems fs s turn m q) (sym h.place) (OfItems.item start earliest.reason);
          others_later = λ t n q w. later w;
        }
      where
        later : {t : List ℕ} {n q : ℕ} → OfItems fs s t n q → Later t n q
        later (OfItems.item x r) = item_later x r
        later (surplus rest b l k) = let o : 5 < 6 = omega arith in inl (here o)

-- Where it refuses, the first row that speaks of them has its number and place.
pub items_first : (fs : List Field) (s : List ℕ) (m p : ℕ) → AllGood fs → walk fs s ≡ refuse m p → First (OfItems fs s) m p
items_first fs s m p g e = go ((walk_stops fs s m p).0 e)
  where
    go : {m p : ℕ} → Stopped fs s m p → First (OfItems fs s) m p
    go (at_item h) = first_item fs s g h
    go (Stopped.surplus c h k) = first_surplus fs s g c h k

-- Items by their number, where the walk accepts.

nth_at : {A : Type 0} (l : List A) (a : A) (m : List A) → get_elem? (l ++ (a ∷ m)) (length l) ≡ some a
nth_at [] a m = refl
nth_at (x ∷ l) a m = nth_at l a m

pub notes_number : {fs : List Field} {xs : List Parts} {s : List ℕ} (p : ℕ) → Block fs xs s → length (notes_of p fs xs) ≡ length fs
notes_number p done = refl
notes_number p (next {f = f} x i b) = ap suc (notes_number (p + item_length (note_of_parts p f x)) b)

module _ (fs : List Field) (s : List ℕ) (ns : List Note) (k : ℕ) (e : walk fs s ≡ ok ns) where
  -- An item that starts somewhere is noted there,
  pub starts_noted : (f : Field) (q : ℕ) (rest : List ℕ) → StartsAt fs s k f q rest
      → (i : Note) × (get_elem? ns k ≡ some i) × (note_of f q (measure f rest) ≡ ok i)
  starts_noted f q rest x =
      let (c, h, _, o) = walk_cut fs s ns e in
      let n : Noted x (found x).notes c = ok_of (rw (all_cut x c h) at (cut_with x x.after)) in
      let l : length (found x).notes ≡ k = notes_number 0 x.block ∙ x.number in
      let t : get_elem? ns k ≡ some n.note = ap (λ l. get_elem? l k) (sym o ∙ n.notes_are) ∙ ap (get_elem? ((found x).notes ++ (n.note ∷ n.later))) (sym l) ∙ nth_at (found x).notes n.note n.later in
      (n.note, t, n.noted)

  pub starts_unique : (f : Field) (q : ℕ) (rest : List ℕ) → StartsAt fs s k f q rest
      → (i : Note) × (get_elem? ns k ≡ some i) × (i.field ≡ f) × (i.start ≡ q)
  starts_unique f q rest x =
      let (i, t, n) = starts_noted f q rest x in
      let (_, _, _, _, _, a, b) = noted_as f q (measure f rest) i n in
      (i, t, a, b)

  -- and an item that is noted starts there.
  starts_somewhere : Field → k < length fs → (f : Field) × (q : ℕ) × (rest : List ℕ) × StartsAt fs s k f q rest
  starts_somewhere g b =
      let (c, h, _, _) = walk_cut fs s ns e in
      let f : Field = get_or fs k g in
      let p : fs ≡ take k fs ++ (f ∷ drop (suc k) fs) = split_at fs k g b in
      let a = sym (cut_append 0 (take k fs) (f ∷ drop (suc k) fs) s) ∙ ap (λ l. cut_from 0 l s) (sym p) ∙ h in
      let (d, u, _) = ok_bind (cut_from 0 (take k fs) s) (λ c. cut_from c.end (f ∷ drop (suc k) fs) c.rest >>= (λ d. ok (joined c d))) c a in
      let n : length (take k fs) ≡ k = length-take-le k fs (omega arith) in
      (f, d.end, d.rest, rw n at (starts_of fs s (take k fs) f (drop (suc k) fs) d p u))

  pub item_starts : (i : Note) → get_elem? ns k ≡ some i → (rest : List ℕ) × StartsAt fs s k i.field i.start rest
  item_starts i t =
      let l : length ns ≡ length fs = sym (length-map ns (λ i. i.field)) ∙ ap length (walk_covers fs s ns e).fields in
      let (f, q, rest, x) = starts_somewhere i.field (omega (arith, is_there ns k i t)) in
      let (j, v, y, z) = starts_unique f q rest x in
      let o : j ≡ i = cc in
      (rest, moved (sym y ∙ ap (λ i. i.field) o) (sym z ∙ ap (λ i. i.start) o) x)
    where
      moved : {f g : Field} {q r : ℕ} {rest : List ℕ} → f ≡ g → q ≡ r → StartsAt fs s k f q rest → StartsAt fs s k g r rest
      moved a b x = rw (a, b) at x
