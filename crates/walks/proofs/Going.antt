-- The walk in progress: the items noted so far, and the fields that are still ahead.
-- Assumes nothing.
use Prim.Native.Nat.{ℕ, ◌+◌, ◌-◌, ◌*◌, ◌/◌, ◌%◌, ◌≤◌}
use mathlib.Core.Path.{◌≡◌, refl, sym, ap, ◌∙◌}
use mathlib.Core.List.{List, [], ◌∷◌, ◌++◌, map, map-append, append-nil}
use native.Mathlib.Omega.{arith}
use lib.ListN.{length, take, drop}
use lib.Seq.{append_snoc, drop-drop}
use borrow.Author.Rules.{part_to_end}
use Rattle.fdoca.specs.Basics.{Result, refuse, ok, ◌>>=◌}
use Rattle.fdoca.specs.FieldType.{nullable}
use Rattle.fdoca.specs.Item.{Field, refused, item, measure_item, measure}
use Rattle.fdoca.specs.Walk.{Note, Cut, note_of, with, cut_from}
use Rattle.field_types.specs.Layouts.{layout_by}
use Rattle.std.specs.Prelude.{Ok, Err, IfOk}
use Rattle.std.specs.Prelude as code
use Rattle.fdoca.specs.declared.Reason.{Reason}
use Rattle.terminated.specs.declared.Measured.{Measured}
use Rattle.terminated.specs.Answer.{measured}
use Rattle.items.proofs.Inside.{inside_at}
use Rattle.fields.specs.Plan.{entry_of, Proper, Planned, empty, entry}
use Rattle.walks.specs.Entry.{measure_entry, length_of, Inside}
use Rattle.walks.specs.Marks.{mark_of, marks_from}
use Rattle.walks.proofs.Parts.{entry_measures}

-- what is noted of a field's item that was measured at p
abbrev pub note_at : Field → (p : ℕ) → Measured → Note
note_at f p m = record { start = p; field = f; is_null = m.null; lead = m.lead; value = m.value; spare = m.spare }

-- the items ns, and then those of a cut
abbrev pub behind : List Note → Cut → Cut
behind ns c = record { notes = ns ++ c.notes; end = c.end; rest = c.rest }

-- The walk over the fields fs from o on has noted ns and goes on at p, with the fields of the entries es.
pub record Going (o : ℕ) (fs : List Field) (s es : List ℕ) (p : ℕ) (ns : List Note) : Type 0 where
  pub ahead : List Field
  pub planned : Planned es ahead
  pub whole : cut_from o fs (drop o s) ≡ (cut_from p ahead (drop p s) >>= λ c. ok (behind ns c))
  pub marked : marks_from o fs (drop o s) ≡ map mark_of ns ++ marks_from p ahead (drop p s)

none_behind : (r : Result Cut) → r ≡ (r >>= λ c. ok (behind [] c))
none_behind (refuse n p) = refl
none_behind (ok c) = refl

pub set_out : (o : ℕ) (fs : List Field) (s es : List ℕ) → Planned es fs → Going o fs s es o []
set_out o fs s es h = record { ahead = fs; planned = h; whole = none_behind (cut_from o fs (drop o s)); marked = refl }

-- the field of the next entry
record Next (e : ℕ) (es : List ℕ) (fs : List Field) : Type 0 where
  field : Field
  later : List Field
  entry_is : e ≡ entry_of field
  proper : Proper field
  planned : Planned es later
  fields_are : fs ≡ field ∷ later

next : {e : ℕ} {es : List ℕ} {fs : List Field} → Planned (e ∷ es) fs → Next e es fs
next (entry {f} {es} {fs} h p) = record { field = f; later = fs; entry_is = refl; proper = h; planned = p; fields_are = refl }

none_left : {fs : List Field} → Planned [] fs → fs ≡ []
none_left empty = refl

pub entries_are : {es : List ℕ} {fs : List Field} → Planned es fs → es ≡ map entry_of fs
entries_are empty = refl
entries_are (entry h p) = rw (← entries_are p)

entry_is_measure : (f : Field) (e : ℕ) (s : List ℕ) → e ≡ entry_of f → Proper f → measure_entry e s ≡ measure f s
entry_is_measure f e s q h =
    let z : e ≡ entry_of f + 281474976710656 * 0 = omega arith in
    rw z (entry_measures f 0 s h)

-- one step of the definitions
cut_refused : (p n : ℕ) (f : Field) (fs : List Field) (s : List ℕ) → measure f s ≡ refused n → cut_from p (f ∷ fs) s ≡ refuse n p
unfolding cut_from note_of
cut_refused p n f fs s e = rw e

cut_item : (p : ℕ) (m : Measured) (f : Field) (fs : List Field) (s : List ℕ) → measure f s ≡ item m.null m.lead m.value m.spare
    → cut_from p (f ∷ fs) s ≡ (cut_from (p + length_of m) fs (drop (length_of m) s) >>= λ c. ok (with (note_at f p m) c))
unfolding cut_from note_of
cut_item p m f fs s e = rw e

marks_refused : (p n : ℕ) (f : Field) (fs : List Field) (s : List ℕ) → measure f s ≡ refused n → marks_from p (f ∷ fs) s ≡ map entry_of (f ∷ fs)
unfolding marks_from note_of
marks_refused p n f fs s e = rw e

marks_item : (p : ℕ) (m : Measured) (f : Field) (fs : List Field) (s : List ℕ) → measure f s ≡ item m.null m.lead m.value m.spare
    → marks_from p (f ∷ fs) s ≡ mark_of (note_at f p m) ∷ marks_from (p + length_of m) fs (drop (length_of m) s)
unfolding marks_from note_of
marks_item p m f fs s e = rw e

with_behind : (ns : List Note) (n : Note) (r : Result Cut) → ((r >>= λ c. ok (with n c)) >>= λ c. ok (behind ns c)) ≡ (r >>= λ c. ok (behind (ns ++ n ∷ []) c))
with_behind ns n (refuse k q) = refl
with_behind ns n (ok c) = rw (append_snoc ns n c.notes)

module _ {o : ℕ} {fs : List Field} {s es : List ℕ} {e p : ℕ} {ns : List Note} (g : Going o fs s (e ∷ es) p ns) where
  abbrev x : Next e es g.ahead
  x = next g.planned

  there : measure_entry e (drop p s) ≡ measure x.field (drop p s)
  there = entry_is_measure x.field e (drop p s) x.entry_is x.proper

  -- an item refused stops the walk with its number, at its start, and its entry and those behind it are as before
  module _ (n : ℕ) (h : refused n ≡ measure_entry e (drop p s)) where
    refused_there : measure x.field (drop p s) ≡ refused n
    refused_there = sym (h ∙ there)

    pub stops : cut_from o fs (drop o s) ≡ refuse n p
    stops =
        let c : cut_from p g.ahead (drop p s) ≡ refuse n p = ap (λ l. cut_from p l (drop p s)) x.fields_are ∙ cut_refused p n x.field x.later (drop p s) refused_there in
        g.whole ∙ ap (λ r. r >>= λ c. ok (behind ns c)) c

    pub stops_marking : marks_from o fs (drop o s) ≡ map mark_of ns ++ e ∷ es
    stops_marking =
        let c : marks_from p g.ahead (drop p s) ≡ e ∷ es =
        ap (λ l. marks_from p l (drop p s)) x.fields_are ∙ marks_refused p n x.field x.later (drop p s) refused_there
        ∙ sym (entries_are g.planned ∙ ap (map entry_of) x.fields_are) in
        g.marked ∙ ap (λ l. map mark_of ns ++ l) c

  -- an item measured is noted, and the walk goes on behind it
  pub record Noting (m : Measured) : Type 0 where
    pub field : Field
    pub entry_is : e ≡ entry_of field
    pub proper : Proper field
    pub going : Going o fs s es (p + length_of m) (ns ++ note_at field p m ∷ [])

  pub goes_on : (m : Measured) → item m.null m.lead m.value m.spare ≡ measure_entry e (drop p s) → Noting m
  goes_on m h =
      let n : Note = note_at x.field p m in
      let later : List ℕ = marks_from (p + length_of m) x.later (drop (p + length_of m) s) in
      let r : measure x.field (drop p s) ≡ item m.null m.lead m.value m.spare = sym (h ∙ there) in
      let c : cut_from p g.ahead (drop p s) ≡ (cut_from (p + length_of m) x.later (drop (length_of m) (drop p s)) >>= λ c. ok (with (note_at x.field p m) c)) =
      ap (λ l. cut_from p l (drop p s)) x.fields_are ∙ cut_item p m x.field x.later (drop p s) r in
      record {
        field = x.field;
        entry_is = x.entry_is;
        proper = x.proper;
        going = record {
          ahead = x.later;
          planned = x.planned;
          whole = g.whole ∙ ap (λ r. r >>= λ c. ok (behind ns c)) c
              ∙ with_behind ns (note_at x.field p m) (cut_from (p + length_of m) x.later (drop (length_of m) (drop p s)))
              ∙ ap (λ l. cut_from (p + length_of m) x.later l >>= λ c. ok (behind (ns ++ note_at x.field p m ∷ []) c)) (drop-drop (length_of m) p s);
          marked = g.marked
              ∙ ap (λ l. map mark_of ns ++ l)
              (ap (λ l. marks_from p l (drop p s)) x.fields_are ∙ marks_item p m x.field x.later (drop p s) r
              ∙ ap (λ l. mark_of n ∷ marks_from (p + length_of m) x.later l) (drop-drop (length_of m) p s))
              ∙ sym (append_snoc (map mark_of ns) (mark_of n) later)
              ∙ ap (λ l. l ++ later) (sym (map-append mark_of ns (n ∷ [])));
        };
      }

module _ {o : ℕ} {fs : List Field} {s : List ℕ} {p : ℕ} {ns : List Note} (g : Going o fs s [] p ns) where
  pub all_cut : cut_from o fs (drop o s) ≡ ok (record { notes = ns; end = p; rest = drop p s })
  unfolding cut_from
  all_cut =
      g.whole ∙ ap (λ l. cut_from p l (drop p s) >>= λ c. ok (behind ns c)) (none_left g.planned)
      ∙ ap (λ l. ok (record { notes = l; end = p; rest = drop p s })) (append-nil ns)

  pub all_marked : marks_from o fs (drop o s) ≡ map mark_of ns
  unfolding marks_from
  all_marked =
      g.marked ∙ ap (λ l. map mark_of ns ++ marks_from p l (drop p s)) (none_left g.planned) ∙ append-nil (map mark_of ns)

-- the item of an entry, within the data
pub lies_inside : (e : ℕ) (s : List ℕ) (at : ℕ) (m : Measured) → at ≤ length s → item m.null m.lead m.value m.spare ≡ measure_entry e (drop at s) → Inside s at m
unfolding measure_entry
lies_inside e s at m l h = inside_at m.null m.lead m.value m.spare _ _ _ _ s at l h

inside_of : (e : ℕ) (s : List ℕ) (at : ℕ) → at ≤ length s → (r : code.Result Measured Reason) → measured r ≡ measure_entry e (drop at s) → IfOk r (Inside s at)
inside_of e s at k (Err x) h = tt
inside_of e s at k (Ok m) h = lies_inside e s at m k h

-- and from the part of the data that starts with it
module _ (e : ℕ) (s : List ℕ) (at : ℕ) (r : code.Result Measured Reason)
    (h : measured r ≡ measure_item (nullable (e / 16777216 % 256)) (layout_by (e / 1099511627776 % 4)) (e / 4294967296 % 128) (e % 65536) (take (length s - at) (drop at s))) where
  pub place_measured : measured r ≡ measure_entry e (drop at s)
  unfolding measure_entry
  place_measured = rw (part_to_end s at) at h

  pub place_inside : at ≤ length s → IfOk r (Inside s at)
  place_inside k = inside_of e s at k r place_measured

pub ruleset place_ways = (place_measured, place_inside)
