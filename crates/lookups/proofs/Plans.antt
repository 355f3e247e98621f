-- An item found by a marked plan is the one that the definitions say.
-- Assumes nothing.
use Rattle.std.specs.Prelude.{Ok, Err}
use mathlib.Core.Path.{◌≡◌, refl, sym, ap, ◌∙◌}
use Prim.Native.Nat.{ℕ, zero, suc, ◌+◌, ◌≤◌, ◌<◌}
use native.Mathlib.Omega.{arith}
use mathlib.Core.List.{List, [], ◌∷◌, map}
use mathlib.Core.Option.{some}
use lib.ListN.{length, get_or, get_elem?}
use lib.Seq.{get_or-take}
use Rattle.fdoca.specs.declared.Reason.TheVariants.{NoSuchItem}
use Rattle.fdoca.specs.declared.Refusal.{Refusal}
use Rattle.fdoca.specs.Returned.{reason_of}
use Rattle.fdoca.specs.Basics.{ok, the}
use Rattle.fdoca.specs.Walk.{Note}
use Rattle.fdoca.proofs.Table.{past_end}
use Rattle.fdoca.proofs.Cover.{walk_covers, nth_stands}
use Rattle.descriptors.specs.Holds.{Ready}
use Rattle.descriptors.specs.declared.Examined.{Examined}
use Rattle.walks.specs.declared.Found.{Found}
use Rattle.walks.specs.Marks.{mark_of}
use Rattle.walks.specs.Finding.{found_of, MarkIn, IsMark, FoundBy}
use Rattle.walks.proofs.Callers.{Sound, item_proper, sound_item}
use Rattle.fdoca.proofs.Results.{ok_of}
use Rattle.fdoca.proofs.Returned.{passed_on}
use Rattle.fields.proofs.Parts.{entry_code}
use Rattle.cuts.specs.Cut.{items_of, CutAs}
use Rattle.cuts.proofs.Callers.{Items, cut_refused, cut_good}
use Rattle.lookups.specs.Answer.{item_in, FoundAs}

-- an item's mark in a marked plan
record Nth (ns : List Note) (k : ℕ) : Type 0 where
  note : Note
  there : get_elem? ns k ≡ some note
  marked : get_or (map mark_of ns) k 0 ≡ mark_of note

nth : (ns : List Note) (k : ℕ) → k < length ns → Nth ns k
nth [] k h = absurd (let z : ⊥ = omega arith in z)
nth (n ∷ ns) zero h = record { note = n; there = refl; marked = refl }
nth (n ∷ ns) (suc k) h = let r = nth ns k (omega arith) in record { note = r.note; there = r.there; marked = r.marked }

module _ (d x s z e : List ℕ) (y : Examined) (rd : Ready d s z e y.id y.items y.rows) (few : length x ≤ 32768) (plan : List ℕ) (k : ℕ) where
  pub find_stop : (e : Refusal) → CutAs d x plan (Err e) → FoundAs (item_in d x k) x (Err e)
  find_stop e cut = passed_on (items_of d x) _ (cut_refused d x plan y.items rd.accepted e cut)

  module _ (n : ℕ) (cut : CutAs d x plan (Ok n)) where
    good : Items d x plan n
    good = cut_good d x plan y.items rd.accepted n cut

    item_is : item_in d x k ≡ the (get_elem? good.notes k) 17 0
    item_is = rw good.items_are

    pub find_none : n ≤ k → FoundAs (item_in d x k) x (Err (record { reason = NoSuchItem; place = 0 }))
    unfolding reason_of
    find_none l = rw (item_is, past_end good.notes k (omega (arith, good.count_is)))

    pub within_plan : n ≤ length plan
    within_plan = good.within

    module _ (l : k < n) where
      one : Nth good.notes k
      one = nth good.notes k (omega (arith, good.count_is))

      mark_in : MarkIn x (get_or plan k 0) one.note
      mark_in =
          record {
            mark = sym (get_or-take n plan k 0 l) ∙ ap (λ p. get_or p k 0) good.marks ∙ one.marked;
            proper = item_proper good.noted k one.note one.there;
            stands = nth_stands good.stands k one.note one.there;
          }

      pub find_mark : IsMark x (get_or plan k 0)
      find_mark = record { note = one.note; mark_in = mark_in }

      is_note : item_in d x k ≡ ok one.note
      is_note = item_is ∙ rw one.there

      sound : Sound x one.note
      sound =
          let w = good.walked y.items rd.accepted in
          let v = walk_covers w.fields x good.notes w.walks in
          ok_of (rw one.there at (sound_item x good.notes v.starts v.total good.noted k))

      pub find_item : (f : Found) → FoundBy x (get_or plan k 0) f → FoundAs (item_in d x k) x (Ok f)
      find_item f q =
          let e : f ≡ found_of one.note = q.each one.note mark_in in
          let within : f.start + f.lead + f.value + f.spare ≤ length x = rw e (omega (arith, sound.inside)) in
          record {
            note = one.note;
            is_item = is_note;
            found = e;
            inside = within;
            small = omega arith;
            state = rw (e, entry_code one.note.field sound.proper);
            entry_is = record { entry = rw e; proper = sound.proper };
          }
