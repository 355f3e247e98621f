-- What a caller knows of the notes of a walk over a plan's fields, and of a found item.
-- Assumes nothing.
use Prim.Native.Nat.{ℕ, zero, suc, ◌+◌, ◌/◌, ◌%◌, ◌≤◌}
use mathlib.Core.Path.{◌≡◌, refl, sym, ap, ◌∙◌}
use mathlib.Core.List.{List, [], ◌∷◌, map}
use mathlib.Core.Option.{Option, none, some}
use native.Mathlib.Omega.{arith}
use lib.Dec.{ltb}
use lib.ListN.{length, drop, get_elem?, length-map}
use Rattle.fdoca.specs.Basics.{Result, refuse, ok, ◌>>=◌, the}
use Rattle.fdoca.specs.Item.{Field, measure}
use Rattle.fdoca.specs.Walk.{Note, item_length, note_of, cut_from, walk}
use Rattle.fdoca.proofs.Results.{IfOk, none_owed, holds, bind_all, reject_all, itself, ok_of}
use Rattle.fdoca.specs.Cover.{sum, positions, lengths}
use Rattle.fdoca.proofs.Cover.{walk_covers}
use Rattle.fields.specs.Plan.{Proper, EntryIs, Planned, empty, entry}
use Rattle.walks.specs.declared.Found.{Found}
use Rattle.walks.specs.Marks.{mark_of, marks_from, Noted, nothing, item}
use Rattle.walks.specs.Finding.{found_of}
use Rattle.fields.proofs.Parts.{entry_code}

planned_length : {es : List ℕ} {fs : List Field} → Planned es fs → length es ≡ length fs
planned_length empty = refl
planned_length (entry h p) = ap suc (planned_length p)

proper_notes : (es : List ℕ) (ns : List Note) → Planned es (map (λ i. i.field) ns) → Noted ns
proper_notes es [] p = nothing
proper_notes (e ∷ es) (n ∷ ns) (entry h p) = item h (proper_notes es ns p)
proper_notes [] (n ∷ ns) p = elim p [ ]

-- the notes of a good block: as many as the plan has entries, and of proper fields
module _ (es : List ℕ) (fs : List Field) (s : List ℕ) (ns : List Note) (p : Planned es fs) (e : walk fs s ≡ ok ns) where
  pub as_many : length ns ≡ length es
  as_many = sym (length-map ns (λ i. i.field)) ∙ ap length (walk_covers fs s ns e).fields ∙ sym (planned_length p)

  pub all_noted : Noted ns
  all_noted = proper_notes es ns (rw (walk_covers fs s ns e).fields p)

-- the plan that the walk over a good block leaves
cut_marks : (p : ℕ) (fs : List Field) (s : List ℕ) → IfOk (λ c. marks_from p fs s ≡ map mark_of c.notes) (cut_from p fs s)
unfolding marks_from cut_from
cut_marks p [] s = holds refl
cut_marks p (f ∷ fs) s =
    bind_all (note_of f p (measure f s)) (itself (note_of f p (measure f s)))
    (λ n e. bind_all (cut_from (p + item_length n) fs (drop (item_length n) s)) (cut_marks (p + item_length n) fs (drop (item_length n) s))
    (λ c k. holds (rw e (ap (λ l. mark_of n ∷ l) k))))

walk_marks : (fs : List Field) (s : List ℕ) → IfOk (λ ns. marks_from 0 fs s ≡ map mark_of ns) (walk fs s)
unfolding walk
walk_marks fs s = bind_all (cut_from 0 fs s) (cut_marks 0 fs s) (λ c k. reject_all (ltb 0 (length c.rest)) 16 c.end (λ h. holds k))

pub good_marks : (fs : List Field) (s : List ℕ) (ns : List Note) → walk fs s ≡ ok ns → marks_from 0 fs s ≡ map mark_of ns
good_marks fs s ns e = ok_of (rw e at (walk_marks fs s))

-- an item that is found lies within the data, and its field is proper
pub record Sound (s : List ℕ) (n : Note) : Type 0 where
  pub inside : n.start + item_length n ≤ length s
  pub proper : Proper n.field

item_inside : (p : ℕ) (ns : List Note) (k : ℕ) (n : Note) → map (λ i. i.start) ns ≡ positions p (lengths ns) → get_elem? ns k ≡ some n → n.start + item_length n ≤ p + sum (lengths ns)
item_inside p [] k n h e = absurd (let z : ◌≡◌ {A = ℕ} 0 1 = cc in let o : ⊥ = omega arith in o)
item_inside p (x ∷ ns) zero n h e =
    let a : x ≡ n = cc in
    let b : x.start ≡ p = cc in
    rw (← a) (omega arith)
item_inside p (x ∷ ns) (suc k) n h e =
    let a : map (λ i. i.start) ns ≡ positions (p + item_length x) (lengths ns) = cc in
    let b : n.start + item_length n ≤ p + item_length x + sum (lengths ns) = item_inside (p + item_length x) ns k n a e in
    omega arith

pub item_proper : {ns : List Note} → Noted ns → (k : ℕ) (n : Note) → get_elem? ns k ≡ some n → Proper n.field
item_proper nothing k n e = absurd (let z : ◌≡◌ {A = ℕ} 0 1 = cc in let o : ⊥ = omega arith in o)
item_proper (item {n = x} h t) zero n e = let a : x ≡ n = cc in rw (← a) h
item_proper (item h t) (suc k) n e = item_proper t k n e

-- item k of a block's notes, whose items are laid end to end over the data
pub sound_item : (s : List ℕ) (ns : List Note) → map (λ i. i.start) ns ≡ positions 0 (lengths ns) → sum (lengths ns) ≡ length s → Noted ns → (k : ℕ)
    → IfOk (Sound s) (the (get_elem? ns k) 17 0)
sound_item s ns p t m k = go (get_elem? ns k) refl
  where
    go : (o : Option Note) → get_elem? ns k ≡ o → IfOk (Sound s) (the o 17 0)
    go none q = none_owed
    go (some n) q =
        let w : Sound s n = record { inside = omega (arith, item_inside 0 ns k n p q); proper = item_proper m k n q } in
        holds w

-- what a found item tells
module _ (s : List ℕ) (n : Note) (w : Sound s n) (r : Found) (h : r ≡ found_of n) where
  pub found_inside : r.start + r.lead + r.value + r.spare ≤ length s
  found_inside = rw h (omega (arith, w.inside))

  pub found_code : r.entry / 16777216 % 256 ≡ n.field.code
  found_code = rw h (entry_code n.field w.proper)

  pub found_entry : EntryIs n.field r.entry
  found_entry = record { entry = rw h; proper = w.proper }

-- where the definition's answer, without its items, is a refusal, so is it with them
pub refused_with_items : {A B : Type 0} (x : Result A) (f : A → B) (n p : ℕ) → refuse n p ≡ (x >>= λ a. ok (f a)) → x ≡ refuse n p
refused_with_items (refuse m q) f n p e = let a : m ≡ n = cc in let b : q ≡ p = cc in rw (a, b)
refused_with_items (ok a) f n p e = absurd (let z : ◌≡◌ {A = ℕ} 0 1 = cc in let o : ⊥ = omega arith in o)

pub good_with_items : {A B : Type 0} (x : Result A) (f : A → B) (b : B) → ok b ≡ (x >>= λ a. ok (f a)) → (a : A) × (x ≡ ok a) × (b ≡ f a)
good_with_items (refuse m q) f b e = absurd (let z : ◌≡◌ {A = ℕ} 0 1 = cc in let o : ⊥ = omega arith in o)
good_with_items (ok a) f b e = (a, refl, cc)
