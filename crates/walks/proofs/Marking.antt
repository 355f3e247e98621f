-- Marking a plan: the entries of the items noted so far have their marks, the others are as before.
-- Assumes nothing.
use Prim.Native.Nat.{ℕ, suc, ◌+◌, ◌*◌, ◌%◌, ◌<◌, ◌≤◌}
use mathlib.Core.Path.{◌≡◌, refl, sym, ap, ◌∙◌}
use mathlib.Core.List.{List, [], ◌∷◌, ◌++◌, map, map-append, append-nil}
use native.Mathlib.Numerals.{add-one}
use native.Mathlib.Omega.{arith}
use lib.ListN.{length, get_or, set, drop, length-append, length-drop, length-map, drop_of_length-le}
use borrow.Author.Tests.{lt-ltb, le-ltb}
use lib.Seq.{drop-cons, append_snoc, set_at, get_or_at}
use Rattle.std.specs.Prelude.{Ok, Err}
use Rattle.fdoca.specs.declared.Reason.{Reason}
use Rattle.fdoca.specs.declared.Reason.TheVariants.{Surplus}
use Rattle.fdoca.specs.declared.Refusal.{Refusal}
use Rattle.fdoca.specs.Item.{Field, refused, item}
use Rattle.fdoca.specs.Returned.{number_of}
use Rattle.fdoca.specs.Walk.{Note, walk}
use Rattle.terminated.specs.declared.Measured.{Measured}
use Rattle.fields.specs.Plan.{Planned}
use Rattle.walks.specs.Entry.{measure_entry, length_of, StepOver}
use Rattle.walks.specs.Marks.{mark_of, MarkedPart, Marked}
use Rattle.walks.proofs.Parts.{entry_part}
use Rattle.walks.proofs.Going.{Going, set_out, note_at, Noting, stops, stops_marking, goes_on, all_cut, all_marked}

-- es was the part of a plan that is walked over from o on, now it is es'; k entries are marked, and the walk goes on at p
pub record MarkingFor (o : ℕ) (es s es' : List ℕ) (p k : ℕ) (fs : List Field) : Type 0 where
  pub notes : List Note
  pub going : Going o fs s (drop k es) p notes
  pub count : length notes ≡ k
  pub plan_is : es' ≡ map mark_of notes ++ drop k es

pub record Marking (o : ℕ) (es s es' : List ℕ) (p k : ℕ) : Type 0 where
  pub each : (fs : List Field) → Planned es fs → MarkingFor o es s es' p k fs

pub mark_start : (o : ℕ) (es s : List ℕ) → Marking o es s es o 0
mark_start o es s = record { each = λ fs h. record { notes = []; going = set_out o fs s es h; count = refl; plan_is = refl } }

-- the entry at k as it was, and then the entries behind it
module _ {o : ℕ} {es s es' : List ℕ} {p k : ℕ} {fs : List Field} (w : MarkingFor o es s es' p k fs) (i : k < length es) where
  apart : es' ≡ map mark_of w.notes ++ get_or es k 0 ∷ drop (suc k) es
  apart = w.plan_is ∙ ap (λ l. map mark_of w.notes ++ l) (drop-cons es k 0 i)

  before : length (map mark_of w.notes) ≡ k
  before = length-map w.notes mark_of ∙ w.count

  same_entry : get_or es' k 0 ≡ get_or es k 0
  same_entry = ap (λ l. get_or l k 0) apart ∙ get_or_at (map mark_of w.notes) (get_or es k 0) (drop (suc k) es) 0 k before

  at_entry : Going o fs s (get_or es k 0 ∷ drop (suc k) es) p w.notes
  at_entry = rw (drop-cons es k 0 i) at w.going

module _ (o : ℕ) (es s es' : List ℕ) (p k : ℕ) (i : k < length es') (l : length es' ≡ length es) (w : Marking o es s es' p k) where
  module _ (fs : List Field) (f : Planned es fs) where
    now : MarkingFor o es s es' p k fs
    now = w.each fs f

    inside : k < length es
    inside = omega arith

    there : measure_entry (get_or es' k 0) (drop p s) ≡ measure_entry (get_or es k 0) (drop p s)
    there = ap (λ e. measure_entry e (drop p s)) (same_entry now inside)

    more : (m : Measured) → item m.null m.lead m.value m.spare ≡ measure_entry (get_or es' k 0) (drop p s)
        → MarkingFor o es s (set es' k (get_or es' k 0 % 281474976710656 + p * 281474976710656)) (p + length_of m) (suc k) fs
    unfolding mark_of
    more m h =
        let n : Noting (at_entry now inside) m = goes_on (at_entry now inside) m (h ∙ there) in
        let x : Note = note_at n.field p m in
        let v : get_or es' k 0 % 281474976710656 + p * 281474976710656 ≡ mark_of x =
        omega (arith, same_entry now inside, n.entry_is, entry_part n.field 0 n.proper) in
        record {
          notes = now.notes ++ x ∷ [];
          going = n.going;
          count = length-append now.notes (x ∷ []) ∙ omega (arith, now.count);
          plan_is = ap (λ l. set l k (get_or es' k 0 % 281474976710656 + p * 281474976710656)) (apart now inside)
              ∙ set_at (map mark_of now.notes) (get_or es k 0) (drop (suc k) es) (get_or es' k 0 % 281474976710656 + p * 281474976710656) k (before now inside)
              ∙ ap (λ y. map mark_of now.notes ++ y ∷ drop (suc k) es) v
              ∙ sym (append_snoc (map mark_of now.notes) (mark_of x) (drop (suc k) es))
              ∙ ap (λ l. l ++ drop (suc k) es) (sym (map-append mark_of now.notes (x ∷ [])));
        }

    pub mark_stop : (r : Reason) → refused (number_of r) ≡ measure_entry (get_or es' k 0) (drop p s) → MarkedPart (Err (record { reason = r; place = p })) o es' fs s
    mark_stop r h =
        record {
          marks = apart now inside ∙ sym (stops_marking (at_entry now inside) (number_of r) (h ∙ there));
          answered = stops (at_entry now inside) (number_of r) (h ∙ there);
        }

  pub mark_more : (step : ℕ) → StepOver (get_or es' k 0) s p step
      → Marking o es s (set es' k (get_or es' k 0 % 281474976710656 + p * 281474976710656)) (p + step) (k + 1)
  mark_more step t = rw (add-one, t.step) (record { each = λ fs f. more fs f t.over t.measured })

module _ (o : ℕ) (es s es' : List ℕ) (p k : ℕ) (i : length es' ≤ k) (l : length es' ≡ length es) (w : Marking o es s es' p k) (fs : List Field) (f : Planned es fs) where
  none_left : drop k es ≡ []
  none_left = let h : length es ≤ k = omega arith in drop_of_length-le es h

  all_through : Going o fs s [] p (w.each fs f).notes
  all_through = rw none_left at (w.each fs f).going

  marked_through : es' ≡ map mark_of (w.each fs f).notes
  marked_through =
      (w.each fs f).plan_is ∙ ap (λ l. map mark_of (w.each fs f).notes ++ l) none_left ∙ append-nil (map mark_of (w.each fs f).notes)

  pub mark_done : MarkedPart (Ok p) o es' fs s
  mark_done =
      record {
        marks = marked_through ∙ sym (all_marked all_through);
        answered = record { notes = (w.each fs f).notes; cut = all_cut all_through; marked = marked_through };
      }

-- the walk over a whole plan from the data's beginning on
module _ (s es es' : List ℕ) (fs : List Field) (f : Planned es fs) where
  pub mark_stopped : (x : Refusal) → ((fs : List Field) → Planned es fs → MarkedPart (Err x) 0 es' fs s) → Marked (Err x) es' fs s
  unfolding walk
  mark_stopped x each = let w = each fs f in record { answered = rw w.answered; marks = w.marks }

  module _ (r : ℕ) (each : (fs : List Field) → Planned es fs → MarkedPart (Ok r) 0 es' fs s) where
    abbrev x : MarkedPart (Ok r) 0 es' fs s
    x = each fs f

    pub mark_surplus : r < length s → Marked (Err (record { reason = Surplus; place = r })) es' fs s
    unfolding walk
    mark_surplus h =
        let k : 0 < length (drop r s) = omega (arith, length-drop r s) in
        record { answered = rw (x.answered.cut, lt-ltb 0 (length (drop r s)) k); marks = x.marks }

    pub mark_ended : length s ≤ r → Marked (Ok tt) es' fs s
    unfolding walk
    mark_ended h =
        let k : length (drop r s) ≤ 0 = omega (arith, length-drop r s) in
        record { answered = rw (x.answered.cut, le-ltb 0 (length (drop r s)) k); marks = x.marks }
