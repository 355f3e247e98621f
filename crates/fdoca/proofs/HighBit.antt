-- Null indicators (document 02, Q-8): an item with a bad one is refused with 24, and all else is as it was with their low bits not looked at.
-- Assumes nothing.
use Rattle.std.specs.Prelude.{if◌then◌else◌}
use mathlib.Core.Path.{◌≡◌, refl, sym, ap, ◌∙◌}
use mathlib.Core.Logic.{◌↔◌}
use Prim.Native.Nat.{ℕ, zero, suc, ◌+◌, ◌≤◌, ◌<◌}
use native.Mathlib.Omega.{arith}
use mathlib.Core.Bool.{Bool, true, false}
use mathlib.Core.List.{List, [], ◌∷◌}
use lib.Dec.{leb, ltb, eqb}
use lib.ListN.{length, drop}
use lib.Seq.{drop-drop}
use borrow.Author.Tests.{le-leb, lt-leb, ne_eqb, leb-true, leb-false, eqb-true, eqb-false}
use Rattle.fdoca.specs.Basics.{Result, refuse, ok, ◌>>=◌, ◌>>◌, reject}
use Rattle.fdoca.specs.FieldType.{Layout, rule_of, nullable}
use Rattle.fdoca.specs.Item.{Field, field_length, Measured, refused, item, measure_value, indicated, measure_nullable, measure_item, measure}
use Rattle.fdoca.specs.Walk.{Note, item_length, Cut, note_of, with, cut_from, walk, walk_by}
use Rattle.fdoca.specs.Check.{check}
use Rattle.fdoca.specs.Unfolding.{unfolded, repeated}
use Rattle.fdoca.specs.Reasons.{BadIndicator, from_01_to_7f}
use Rattle.fdoca.specs.HighBit.{nullable_by_high_bit, measure_by_high_bit, walk_with, AcceptedWith, NoneBad}
use Rattle.fdoca.proofs.Tests.{by_le, by_eq}
use Rattle.fdoca.proofs.Results.{ok_bind, ok_reject}
use Rattle.fdoca.proofs.Outcomes.{of_value}
use Rattle.fdoca.proofs.Blocks.{walk_sound}
use Rattle.fdoca.proofs.Data.{item_count, walked_by, block_walked}

-- ONE ITEM

-- not refused with 24
abbrev Not24 : Measured → Type 0
Not24 (refused n) = n < 24
Not24 (item z p v r) = Unit {0}

value_not_24 : (l : Layout) (mode F : ℕ) (s : List ℕ) → Not24 (measure_value l mode F s)
value_not_24 l mode F s =
    of_value s Not24 (record { short = omega arith; count = omega arith; no_end = omega arith; found = λ z p v r h. tt }) l mode F

behind_not_24 : (m : Measured) → Not24 m → Not24 (indicated m)
behind_not_24 (refused n) h = h
behind_not_24 (item z p v r) h = tt

never : (m : Measured) → Not24 m → m ≡ refused 24 → ⊥
never (refused n) h e = let z : n ≡ 24 = cc in omega arith
never (item z p v r) h e = let z : ◌≡◌ {A = ℕ} 0 1 = cc in omega arith

module _ (f : Field) where
  abbrev layout : Layout
  layout = (rule_of f.type).layout

  bad_refused : {s : List ℕ} → BadIndicator f s → measure f s ≡ refused 24
  unfolding measure measure_item measure_nullable
  bad_refused (from_01_to_7f {b = b} h a c) = rw (le-leb 128 f.code h, ne_eqb b 0 (λ e. omega arith), lt-leb 128 b (omega arith))

  refused_nullable : (s : List ℕ) → 128 ≤ f.code → measure_nullable layout f.mode (field_length f) s ≡ refused 24 → BadIndicator f s
  unfolding measure_nullable
  refused_nullable [] h e = absurd (never (refused 13) (omega arith) e)
  refused_nullable (b ∷ s) h e =
      by_eq (λ m. m ≡ refused 24 → BadIndicator f (b ∷ s)) b _
      (λ z e. absurd (never _ (behind_not_24 (measure_value layout f.mode (field_length f) s) (value_not_24 layout f.mode (field_length f) s)) e))
      (λ z. by_le (λ m. m ≡ refused 24 → BadIndicator f (b ∷ s)) _ b (λ k e. absurd (never (item true 1 0 0) tt e))
      (λ k e. from_01_to_7f h (omega arith) (omega arith))) e

  nullable_else : (s : List ℕ) → 128 ≤ f.code → (BadIndicator f s → ⊥)
      → measure_nullable layout f.mode (field_length f) s ≡ nullable_by_high_bit layout f.mode (field_length f) s
  unfolding measure_nullable nullable_by_high_bit
  nullable_else [] h good = refl
  nullable_else (b ∷ s) h good = go (eqb b 0) (leb 128 b) refl refl
    where
      value : Measured
      value = indicated (measure_value layout f.mode (field_length f) s)

      go : (z t : Bool) → eqb b 0 ≡ z → leb 128 b ≡ t → (if z then value else if t then item true 1 0 0 else refused 24) ≡ (if t then item true 1 0 0 else value)
      go true true u w = absurd (let z : ⊥ = omega (arith, eqb-true b 0 u, leb-true 128 b w) in z)
      go true false u w = refl
      go false true u w = refl
      go false false u w = absurd (good (from_01_to_7f h (omega (arith, eqb-false b 0 u)) (omega (arith, leb-false 128 b w))))

  refused_bad : (s : List ℕ) → measure f s ≡ refused 24 → BadIndicator f s
  unfolding measure measure_item
  refused_bad s =
      by_le (λ m. m ≡ refused 24 → BadIndicator f s) 128 f.code (λ h e. refused_nullable s h e)
      (λ h e. absurd (never _ (value_not_24 layout f.mode (field_length f) s) e))

  -- An item is refused with 24 exactly where its null indicator is bad,
  pub item_24 : (s : List ℕ) → (measure f s ≡ refused 24) ↔ BadIndicator f s
  item_24 s = (λ e. refused_bad s e, λ h. bad_refused h)

  -- and else it is measured as without a look at the low bits.
  pub item_else : (s : List ℕ) → (BadIndicator f s → ⊥) → measure f s ≡ measure_by_high_bit f s
  unfolding measure measure_item measure_by_high_bit
  item_else s good = go (nullable f.code) refl
    where
      go : (t : Bool) → nullable f.code ≡ t
          → (if t then measure_nullable layout f.mode (field_length f) s else measure_value layout f.mode (field_length f) s)
          ≡ (if t then nullable_by_high_bit layout f.mode (field_length f) s else measure_value layout f.mode (field_length f) s)
      go true h = nullable_else s (leb-true 128 f.code h) good
      go false h = refl

-- A BLOCK

-- the walk by measuring is the walk
walk_from : (p : ℕ) (fs : List Field) (s : List ℕ)
    → walk_with measure p fs s ≡ (cut_from p fs s >>= (λ c. reject (ltb 0 (length c.rest)) 16 c.end >> ok c.notes))
unfolding walk_with cut_from
walk_from p [] s = refl
walk_from p (f ∷ fs) s = go (note_of f p (measure f s)) (λ q t. walk_from q fs t)
  where
    ended : (n : Note) (r : Result Cut)
        → ((r >>= (λ c. reject (ltb 0 (length c.rest)) 16 c.end >> ok c.notes)) >>= (λ ns. ok (n ∷ ns)))
        ≡ ((r >>= (λ c. ok (with n c))) >>= (λ c. reject (ltb 0 (length c.rest)) 16 c.end >> ok c.notes))
    ended n (refuse k q) = refl
    ended n (ok c) = stopped (ltb 0 (length c.rest))
      where
        stopped : (t : Bool) → ((reject t 16 c.end >> ok c.notes) >>= (λ ns. ok (n ∷ ns))) ≡ (reject t 16 c.end >> ok (n ∷ c.notes))
        stopped true = refl
        stopped false = refl

    go : (r : Result Note)
        → ((q : ℕ) (t : List ℕ) → walk_with measure q fs t ≡ (cut_from q fs t >>= (λ c. reject (ltb 0 (length c.rest)) 16 c.end >> ok c.notes)))
        → (r >>= (λ n. walk_with measure (p + item_length n) fs (drop (item_length n) s) >>= (λ ns. ok (n ∷ ns))))
        ≡ ((r >>= (λ n. cut_from (p + item_length n) fs (drop (item_length n) s) >>= (λ c. ok (with n c))))
        >>= (λ c. reject (ltb 0 (length c.rest)) 16 c.end >> ok c.notes))
    go (refuse k q) ih = refl
    go (ok n) ih =
        ap (λ x. x >>= (λ ns. ok (n ∷ ns))) (ih (p + item_length n) (drop (item_length n) s))
        ∙ ended n (cut_from (p + item_length n) fs (drop (item_length n) s))

pub same_walk : (fs : List Field) (s : List ℕ) → walk_with measure 0 fs s ≡ walk fs s
unfolding walk
same_walk fs s = walk_from 0 fs s

-- a note is of its field, at its position
noted_at : (f : Field) (p : ℕ) (m : Measured) (n : Note) → note_of f p m ≡ ok n → (n.start ≡ p) × (n.field ≡ f) × ((k : ℕ) → m ≡ refused k → ⊥)
unfolding note_of
noted_at f p (refused k) n e = absurd (let z : ◌≡◌ {A = ℕ} 0 1 = cc in let w : ⊥ = omega arith in w)
noted_at f p (item z l v r) n e =
    let q : record { start = p; field = f; is_null = z; lead = l; value = v; spare = r } ≡ n = cc in
    (rw (← q), rw (← q), λ k h. let z : ◌≡◌ {A = ℕ} 0 1 = cc in omega arith)

module _ (s : List ℕ) where
  -- the first item of the walk from position p of the data on, and the others
  record Taken (measuring : Field → List ℕ → Measured) (p : ℕ) (f : Field) (fs : List Field) (ns : List Note) : Type 0 where
    note : Note
    others : List Note
    noted : note_of f p (measuring f (drop p s)) ≡ ok note
    walks : walk_with measuring (p + item_length note) fs (drop (p + item_length note) s) ≡ ok others
    both : ns ≡ note ∷ others

  module _ (measuring : Field → List ℕ → Measured) (p : ℕ) (f : Field) (fs : List Field) (ns : List Note) where
    taken : walk_with measuring p (f ∷ fs) (drop p s) ≡ ok ns → Taken measuring p f fs ns
    unfolding walk_with
    taken e = let (n, a, b) = ok_bind (note_of f p (measuring f (drop p s))) _ ns e in behind n a b
      where
        behind : (n : Note) → note_of f p (measuring f (drop p s)) ≡ ok n
            → (walk_with measuring (p + item_length n) fs (drop (item_length n) (drop p s)) >>= (λ ms. ok (n ∷ ms))) ≡ ok ns → Taken measuring p f fs ns
        behind n a b =
            let (ms, c, q) = ok_bind (walk_with measuring (p + item_length n) fs (drop (p + item_length n) s)) _ ns (rw (drop-drop (item_length n) p s) at b) in
            record { note = n; others = ms; noted = a; walks = c; both = cc }

    walked : Taken measuring p f fs ns → walk_with measuring p (f ∷ fs) (drop p s) ≡ ok ns
    unfolding walk_with
    walked x = rw (x.noted, drop-drop (item_length x.note) p s, x.walks, x.both)

  none_left : NoneBad s []
  none_left k i h = absurd (let z : ◌≡◌ {A = ℕ} 0 1 = cc in let w : ⊥ = omega arith in w)

  one_more : (n : Note) (ns : List Note) → (BadIndicator n.field (drop n.start s) → ⊥) → NoneBad s ns → NoneBad s (n ∷ ns)
  one_more n ns h k zero i e = let q : n ≡ i = cc in rw (← q) h
  one_more n ns h k (suc j) i e = k j i e

  first_and_others : (n : Note) (ns ms : List Note) → ms ≡ n ∷ ns → NoneBad s ms → (BadIndicator n.field (drop n.start s) → ⊥) × NoneBad s ns
  first_and_others n ns ms e none = let h : NoneBad s (n ∷ ns) = rw e at none in (h 0 n refl, λ k i q. h (suc k) i q)

  shrinks : (p : ℕ) (fs : List Field) (ns : List Note) → walk_with measure p fs (drop p s) ≡ ok ns
      → (walk_with measure_by_high_bit p fs (drop p s) ≡ ok ns) × NoneBad s ns
  unfolding walk_with
  shrinks p [] ns e =
      let (_, q) = ok_reject (ltb 0 (length (drop p s))) 16 p (ok []) ns e in
      let z : ns ≡ [] = cc in
      (e, rw z none_left)
  shrinks p (f ∷ fs) ns e =
      let x = taken measure p f fs ns e in
      let (w, none) = shrinks (p + item_length x.note) fs x.others x.walks in
      let (start_is, field_is, measured) = noted_at f p (measure f (drop p s)) x.note x.noted in
      let good : BadIndicator f (drop p s) → ⊥ = λ h. measured 24 ((item_24 f (drop p s)).1 h) in
      let y : Taken measure_by_high_bit p f fs ns = record {
        note = x.note;
        others = x.others;
        noted = ap (note_of f p) (sym (item_else f (drop p s) good)) ∙ x.noted;
        walks = w;
        both = x.both;
      } in
      (walked measure_by_high_bit p f fs ns y, rw x.both (one_more x.note x.others (rw (start_is, field_is) good) none))

  grows : (p : ℕ) (fs : List Field) (ns : List Note) → walk_with measure_by_high_bit p fs (drop p s) ≡ ok ns → NoneBad s ns
      → walk_with measure p fs (drop p s) ≡ ok ns
  unfolding walk_with
  grows p [] ns e none = e
  grows p (f ∷ fs) ns e none =
      let x = taken measure_by_high_bit p f fs ns e in
      let (start_is, field_is, _) = noted_at f p (measure_by_high_bit f (drop p s)) x.note x.noted in
      let (first, rest) = first_and_others x.note x.others ns x.both none in
      let good : BadIndicator f (drop p s) → ⊥ = rw (start_is, field_is) at first in
      let y : Taken measure p f fs ns = record {
        note = x.note;
        others = x.others;
        noted = ap (note_of f p) (item_else f (drop p s) good) ∙ x.noted;
        walks = grows (p + item_length x.note) fs x.others x.walks rest;
        both = x.both;
      } in
      walked measure p f fs ns y

  -- The walk takes the items of some fields exactly if it would without a look at the low bits, and no item has a bad null indicator.
  pub walk_shrinks : (fs : List Field) (ns : List Note)
      → (walk_with measure 0 fs s ≡ ok ns) ↔ ((walk_with measure_by_high_bit 0 fs s ≡ ok ns) × NoneBad s ns)
  walk_shrinks fs ns = (λ e. shrinks 0 fs ns e, λ h. grows 0 fs ns h.0 h.1)

module _ (d s : List ℕ) (ns : List Note) where
  -- A block is accepted by measuring exactly if the walk over its unfolding takes its items.
  pub accepted_walks : AcceptedWith measure d s ns → walk_by (unfolded d) (repeated d) s ≡ ok ns
  accepted_walks x =
      let b = walk_sound x.fields s ns (sym (same_walk x.fields s) ∙ x.walks) in
      block_walked d x.count x.checks s x.fields x.unfolds b.parts b.block x.few ∙ ap ok (sym b.noted)

  pub walks_accepted : (n : ℕ) → check d ≡ ok n → length s ≤ 32768 → walk_by (unfolded d) (repeated d) s ≡ ok ns → AcceptedWith measure d s ns
  walks_accepted n e fits w =
      let x = walked_by d n e s ns w in
      record {
        count = n;
        checks = e;
        fits = fits;
        fields = x.fields;
        unfolds = x.unfolds;
        few = omega (arith, x.few, item_count x.fields s ns x.walks);
        walks = same_walk x.fields s ∙ x.walks;
      }

  accepted_as : {m₁ m₂ : Field → List ℕ → Measured} (x : AcceptedWith m₁ d s ns) → walk_with m₂ 0 x.fields s ≡ ok ns → AcceptedWith m₂ d s ns
  accepted_as x w =
      record { count = x.count; checks = x.checks; fits = x.fits; fields = x.fields; unfolds = x.unfolds; few = x.few; walks = w }

  pub accepted_shrinks : AcceptedWith measure d s ns ↔ (AcceptedWith measure_by_high_bit d s ns × NoneBad s ns)
  accepted_shrinks = (
    λ x. let (w, none) = (walk_shrinks s x.fields ns).0 x.walks in (accepted_as x w, none),
    λ y. accepted_as y.0 ((walk_shrinks s y.0.fields ns).1 (y.0.walks, y.1)),
  )
