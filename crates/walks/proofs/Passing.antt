-- Rows to the end, pass by pass: a pass is copied to its items' places and walked over there.
-- Assumes nothing.
use Prim.Native.Nat.{ℕ, zero, suc, ◌+◌, ◌-◌, ◌*◌, ◌%◌, ◌<◌, ◌≤◌, min}
use mathlib.Core.Path.{◌≡◌, refl, sym, ap, ◌∙◌}
use mathlib.Core.Logic.{inl, inr}
use mathlib.Core.Bool.{false}
use mathlib.Core.List.{List, [], ◌∷◌, ◌++◌, map, map-append, append_assoc, append-nil}
use native.Mathlib.Numerals.{add-one}
use native.Mathlib.Omega.{arith}
use lib.ListN.{length, get_or, set, take, drop, length-append, length-drop, length-map, length-set, drop_of_length-le}
use lib.Seq.{paste, paste-zero, paste-suc, length-paste, drop-paste, take_at, drop_at, take-add, take_all, take-take, take-append-add, length-take-le, get_or-take, get_or-drop}
use Rattle.std.specs.Prelude.{Ok, Err}
use Rattle.fdoca.specs.declared.Reason.TheVariants.{TooManyItems}
use Rattle.fdoca.specs.declared.Refusal.{Refusal}
use Rattle.fdoca.specs.Basics.{is_empty, Result, refuse, ok, ◌>>=◌}
use Rattle.fdoca.specs.Item.{Field, Measured, refused, item, measure}
use Rattle.fdoca.specs.Returned.{number_of}
use Rattle.fdoca.specs.Walk.{Note, item_length, Cut, note_of, cut_from, rows_from}
use Rattle.fdoca.proofs.Tests.{by_order}
use Rattle.fdoca.proofs.Rows.{rows_through, rows_short, rows_end, rows_begin}
use Rattle.fields.specs.Plan.{entry_of, Planned, empty, entry}
use Rattle.walks.specs.Marks.{mark_of, mark_or, marks_from, Through, MarkedPart}
use Rattle.walks.specs.Finding.{IsPlan}
use Rattle.walks.specs.Passes.{unmarked, Apart, wide, PassPlan, IsPassPlan, MarkedPasses}
use Rattle.walks.proofs.Parts.{entry_part}
use Rattle.walks.proofs.Going.{entries_are}

-- ---- `copy_pass`: the first i entries are copied

pub record Copied (es es' : List ℕ) (before k m i : ℕ) : Type 0 where
  pub copied : es' ≡ paste es k (unmarked (drop before es)) i
  pub within : i ≤ m
  pub inside : before + m ≤ length es
  pub same_length : length es' ≡ length es

module _ (es : List ℕ) (before k m : ℕ) (apart : Apart before m k) (room : k + m ≤ length es) where
  abbrev source : List ℕ
  source = unmarked (drop before es)

  apart_inside : before + m ≤ length es
  apart_inside = go apart
    where
      go : Apart before m k → before + m ≤ length es
      go (inl e) = omega arith
      go (inr h) = omega arith

  source_length : length source ≡ length es - before
  source_length = length-map (drop before es) (λ e. e % 281474976710656) ∙ length-drop before es

  pub none_copied : Copied es es before k m 0
  none_copied = record { copied = paste-zero es k source; within = omega arith; inside = apart_inside; same_length = refl }

  map_get_or : (l : List ℕ) (i : ℕ) → i < length l → get_or (unmarked l) i 0 ≡ get_or l i 0 % 281474976710656
  map_get_or [] i h = absurd (let z : ⊥ = omega arith in z)
  map_get_or (e ∷ l) zero h = refl
  map_get_or (e ∷ l) (suc i) h = map_get_or l i (omega arith)

  -- the entry that is copied next is still as it was
  not_yet : (i : ℕ) → i < m → get_or (paste es k source i) (before + i) 0 ≡ get_or es (before + i) 0
  not_yet i h = go apart
    where
      go : Apart before m k → get_or (paste es k source i) (before + i) 0 ≡ get_or es (before + i) 0
      go (inl e) =
          let d : drop (k + i) (paste es k source i) ≡ drop (k + i) es = drop-paste es k source i (omega arith) (omega (arith, source_length, apart_inside)) in
          let b : before + i ≡ k + i + 0 = omega arith in
          rw b (sym (get_or-drop (k + i) (paste es k source i) 0 0) ∙ ap (λ l. get_or l 0 0) d ∙ get_or-drop (k + i) es 0 0)
      go (inr a) =
          let t : take k (paste es k source i) ≡ take k es =
          ap (take k) (append_assoc (take k es) (take i source) (drop (k + i) es)) ∙ take_at (take k es) (take i source ++ drop (k + i) es) k (length-take-le k es (omega arith)) in
          sym (get_or-take k (paste es k source i) (before + i) 0 (omega arith)) ∙ ap (λ l. get_or l (before + i) 0) t ∙ get_or-take k es (before + i) 0 (omega arith)

  module _ (es' : List ℕ) (i : ℕ) (w : Copied es es' before k m i) where
    pub one_copied : i < m → Copied es (set es' (k + i) (get_or es' (before + i) 0 % 281474976710656)) before k m (i + 1)
    one_copied h =
        let v : get_or es' (before + i) 0 % 281474976710656 ≡ get_or source i 0 =
        ap (λ x. x % 281474976710656) (ap (λ l. get_or l (before + i) 0) w.copied ∙ not_yet i h ∙ sym (get_or-drop before es i 0))
        ∙ sym (map_get_or (drop before es) i (omega (arith, length-drop before es, apart_inside))) in
        record {
          copied = ap (λ l. set l (k + i) (get_or es' (before + i) 0 % 281474976710656)) w.copied
              ∙ ap (set (paste es k source i) (k + i)) v
              ∙ paste-suc es k source i 0 (omega arith) (omega (arith, source_length, apart_inside))
              ∙ ap (paste es k source) (sym (add-one i));
          within = omega arith;
          inside = apart_inside;
          same_length = length-set es' (k + i) (get_or es' (before + i) 0 % 281474976710656) ∙ w.same_length;
        }

    pub all_copied : m ≤ i → es' ≡ paste es k source m
    all_copied h = let e : i ≡ m = omega (arith, w.within) in rw (← e) w.copied

pub ruleset copy_ways = (none_copied, one_copied, all_copied)

-- ---- entries and their marks

module _ {A B : Type 0} (f : A → B) where
  pub take_map : (n : ℕ) (l : List A) → take n (map f l) ≡ map f (take n l)
  take_map zero l = refl
  take_map (suc n) [] = refl
  take_map (suc n) (a ∷ l) = ap (λ x. f a ∷ x) (take_map n l)

pub middle : (n w : ℕ) (l : List ℕ) → n ≤ length l → drop n (take (n + w) l) ≡ take w (drop n l)
middle n w l h = ap (drop n) (take-add n w l) ∙ drop_at (take n l) (take w (drop n l)) n (length-take-le n l h)

planned_take : {es : List ℕ} {fs : List Field} (m : ℕ) → Planned es fs → Planned (take m es) (take m fs)
planned_take zero p = empty
planned_take (suc m) empty = empty
planned_take (suc m) (entry {f = f} {es = es} {fs = fs} h p) = entry h (planned_take {es = es} {fs = fs} m p)

pub unmarked_planned : {es : List ℕ} {fs : List Field} → Planned es fs → unmarked es ≡ es
unmarked_planned empty = refl
unmarked_planned (entry {f} {es} h p) =
    let q : entry_of f % 281474976710656 ≡ entry_of f = omega (arith, entry_part f 0 h) in
    ap (λ x. x ∷ unmarked es) q ∙ ap (λ l. entry_of f ∷ l) (unmarked_planned p)

pub unmarked_marks : (o : ℕ) (s : List ℕ) {es : List ℕ} {fs : List Field} → Planned es fs → unmarked (marks_from o fs s) ≡ es
unfolding marks_from note_of mark_of
unmarked_marks o s empty = refl
unmarked_marks o s (entry {f} {es} {fs} h p) = go (measure f s) (λ q t. unmarked_marks q t p)
  where
    go : (m : Measured) → ((q : ℕ) (t : List ℕ) → unmarked (marks_from q fs t) ≡ es)
        → unmarked (mark_or (note_of f o m) (λ n. marks_from (o + item_length n) fs (drop (item_length n) s)) (map entry_of (f ∷ fs))) ≡ entry_of f ∷ es
    go (refused n) ih = ap unmarked (sym (entries_are (entry h p))) ∙ unmarked_planned (entry h p)
    go (item z l v r) ih =
        let q : (entry_of f + 281474976710656 * o) % 281474976710656 ≡ entry_of f = omega (arith, entry_part f 0 h) in
        ap (λ x. x ∷ unmarked (marks_from (o + (l + v + r)) fs (drop (l + v + r) s))) q
        ∙ ap (λ l. entry_of f ∷ l) (ih (o + (l + v + r)) (drop (l + v + r) s))

-- ---- the walk, pass by pass

-- es was the plan, now it is es'; the walk began at o behind the first `before` items, k items are noted with these, and it goes on at p, where a pass is
-- to begin
pub record PassingFor (es s es' : List ℕ) (before once o p k : ℕ) (rows : List Field) : Type 0 where
  pub notes : List Note
  pub room : ℕ
  pub counted : before + length notes ≡ k
  pub room_is : k + room ≡ length es
  pub whole : rows_from (length es - before) o rows [] (drop o s) ≡ (rows_from room p rows [] (drop p s) >>= λ ns. ok (notes ++ ns))
  pub marks : take k es' ≡ take before es ++ map mark_of notes
  pub pass_there : take (wide es before once) (unmarked (drop before es')) ≡ map entry_of (take (wide es before once) rows)

pub record Passing (es s es' : List ℕ) (before once o p k : ℕ) : Type 0 where
  pub among : k ≤ length es
  pub within : p ≤ length s
  pub behind : Apart before once k
  pub same_length : length es' ≡ length es
  pub each : (rows : List Field) → PassPlan es before once rows → PassingFor es s es' before once o p k rows

some_rows : (rows : List Field) → 0 < length rows → is_empty rows ≡ false
some_rows [] h = absurd (let z : ⊥ = omega arith in z)
some_rows (f ∷ fs) h = refl

pub proper_part : (m : ℕ) (rows : List Field) → Planned (map entry_of rows) rows → Planned (map entry_of (take m rows)) (take m rows)
proper_part m rows p = rw (← take_map entry_of m rows) (planned_take m p)

none_noted : (r : Result (List Note)) → r ≡ (r >>= λ ns. ok ([] ++ ns))
none_noted (refuse n p) = refl
none_noted (ok ns) = refl

pub pass_start : (es s : List ℕ) (before once o : ℕ) → IsPassPlan es before once → o ≤ length s → Passing es s es before once o o before
pass_start es s before once o x h =
    record {
      among = x.pass_plan.has_room;
      within = h;
      behind = inl refl;
      same_length = refl;
      each = λ rows f. record {
        notes = [];
        room = length es - before;
        counted = omega arith;
        room_is = omega (arith, f.has_room);
        whole = none_noted (rows_from (length es - before) o rows [] (drop o s));
        marks = sym (append-nil (take before es));
        pass_there = f.entries;
      };
    }

-- the answer of a walk that is refused
answer_refused : (x : Refusal) (es es' s : List ℕ) (before o : ℕ) (rows : List Field) → length es' ≡ length es
    → rows_from (length es - before) o rows [] (drop o s) ≡ refuse (number_of x.reason) x.place → MarkedPasses (Err x) es es' before o rows s
answer_refused x es es' s before o rows l e =
    record {
      answered = rw e;
      marks = λ ns y. absurd (let z : ◌≡◌ {A = ℕ} 0 1 = cc in let o : ⊥ = omega arith in o);
      same_length = l;
      few = tt;
    }

-- another pass: m entries of it are copied to the places from k to e, and walked over there
module _ (es s es' xs : List ℕ) (before once o p k m e : ℕ) (w : Passing es s es' before once o p k) (m-is : m ≡ min once (length es' - k))
    (copied : xs ≡ paste es' k (unmarked (drop before es')) m) (e-is : e ≡ k + m) where
  -- the copy
  module _ (rows : List Field) (f : PassPlan es before once rows) where
    now : PassingFor es s es' before once o p k rows
    now = w.each rows f

    start_first : before ≤ k
    start_first = go w.behind
      where
        go : Apart before once k → before ≤ k
        go (inl q) = omega arith
        go (inr h) = omega arith

    source_long : m ≤ length (unmarked (drop before es'))
    source_long = omega (arith, length-map (drop before es') (λ e. e % 281474976710656), length-drop before es', start_first, w.same_length)

    part_entries : take m (unmarked (drop before es')) ≡ map entry_of (take m rows)
    part_entries =
        let h : m ≤ wide es before once = omega (arith, start_first, w.same_length) in
        sym (take-take m (wide es before once) (unmarked (drop before es')) h) ∙ ap (take m) now.pass_there
        ∙ take_map entry_of m (take (wide es before once) rows) ∙ ap (map entry_of) (take-take m (wide es before once) rows h)

    part_is : take (e - k) (drop k xs) ≡ map entry_of (take m rows)
    part_is =
        let n : e - k ≡ m = omega arith in
        let l : k ≤ length es' = omega (arith, w.among, w.same_length) in
        rw (n, copied) (ap (λ l. take m (drop k l)) (append_assoc (take k es') (take m (unmarked (drop before es'))) (drop (k + m) es'))
        ∙ ap (take m) (drop_at (take k es') (take m (unmarked (drop before es')) ++ drop (k + m) es') k (length-take-le k es' l))
        ∙ take_at (take m (unmarked (drop before es'))) (drop (k + m) es') m (length-take-le m (unmarked (drop before es')) source_long)
        ∙ part_entries)

    part_planned : Planned (take (e - k) (drop k xs)) (take m rows)
    part_planned = rw part_is (proper_part m rows f.proper_rows)

  pub part_is_plan : IsPassPlan es before once → IsPlan (take (e - k) (drop k xs))
  part_is_plan x = record { fields = take m x.rows; planned = part_planned x.rows x.pass_plan }

  abbrev rejoined : List ℕ → List ℕ
  rejoined ys = take k xs ++ (ys ++ drop (e - k) (drop k xs))

  module _ (more : p < length s) (ys : List ℕ) (marked : (fs : List Field) → Planned (take (e - k) (drop k xs)) fs → ys ≡ marks_from p fs (drop p s)) where
    abbrev after : List ℕ
    after = rejoined ys

    module _ (rows : List Field) (f : PassPlan es before once rows) where
      abbrev fs : List Field
      fs = take m rows

      fs_long : length fs ≡ m
      fs_long = length-take-le m rows (omega (arith, f.once_is))

      unmarked_ys : unmarked ys ≡ map entry_of fs
      unmarked_ys = ap unmarked (marked fs (part_planned rows f)) ∙ unmarked_marks p (drop p s) (part_planned rows f) ∙ part_is rows f

      ys_size : length ys ≡ m
      ys_size = sym (length-map ys (λ e. e % 281474976710656)) ∙ ap length unmarked_ys ∙ length-map fs entry_of ∙ fs_long

      xs_long : length xs ≡ length es
      xs_long =
          ap length copied ∙ length-paste es' k (unmarked (drop before es')) m (omega (arith, w.among, w.same_length)) (source_long rows f) ∙ w.same_length

      front : take k xs ≡ take k es'
      front =
          ap (take k) (copied ∙ append_assoc (take k es') (take m (unmarked (drop before es'))) (drop (k + m) es'))
          ∙ take_at (take k es') (take m (unmarked (drop before es')) ++ drop (k + m) es') k (length-take-le k es' (omega (arith, w.among, w.same_length)))

      front_long : length (take k xs) ≡ k
      front_long = length-take-le k xs (omega (arith, xs_long, w.among))

      after_long : length after ≡ length es
      after_long =
          length-append (take k xs) (ys ++ drop (e - k) (drop k xs)) ∙ omega (
            arith,
            front_long,
            length-append ys (drop (e - k) (drop k xs)),
            ys_size,
            length-drop (e - k) (drop k xs),
            length-drop k xs,
            xs_long,
            w.among,
            w.same_length,
          )

      -- the definition begins a pass here
      begins : rows_from (now rows f).room p rows [] (drop p s) ≡ rows_from (now rows f).room p rows rows (drop p s)
      begins =
          rows_begin rows (now rows f).room p (drop p s) (some_rows rows (omega (arith, f.once_is, f.has_rows)))
          (omega (arith, length-drop p s, w.within, more))

      abbrev onward : Result (List Note) → Result (List Note)
      onward x = x >>= λ ns. ok ((now rows f).notes ++ ns)

      goes : (x : Result (List Note)) → rows_from (now rows f).room p rows rows (drop p s) ≡ x → rows_from (length es - before) o rows [] (drop o s) ≡ onward x
      goes x q = (now rows f).whole ∙ ap onward (begins ∙ q)

      -- a pass that has not all its room
      short : m < once → rows_from (now rows f).room p rows rows (drop p s) ≡ (cut_from p fs (drop p s) >>= λ c. refuse 10 c.end)
      short h =
          let q : (now rows f).room ≡ m = omega (arith, (now rows f).room_is, w.same_length) in
          rw q (rows_short rows rows m p (drop p s) (omega (arith, f.once_is)))

      -- and a whole one
      abbrev less : ℕ
      less = length es - e

      abbrev then_on : Cut → Result (List Note)
      then_on c = rows_from less c.end rows [] c.rest >>= λ ns. ok (c.notes ++ ns)

      full : once ≤ m → rows_from (now rows f).room p rows rows (drop p s) ≡ (cut_from p fs (drop p s) >>= then_on)
      full h =
          let q : (now rows f).room ≡ length rows + less = omega (arith, (now rows f).room_is, w.same_length, w.among, f.once_is) in
          let t : fs ≡ rows = take_all m rows (omega (arith, f.once_is)) in
          ap (λ n. rows_from n p rows rows (drop p s)) q ∙ rows_through rows rows less p (drop p s) ∙ ap (λ l. cut_from p l (drop p s) >>= then_on) (sym t)

      refused_pass : (n q : ℕ) → cut_from p fs (drop p s) ≡ refuse n q → rows_from (now rows f).room p rows rows (drop p s) ≡ refuse n q
      refused_pass n q z =
          by_order m once (λ h. short h ∙ ap (λ x. x >>= λ c. refuse 10 c.end) z) (λ q. full (omega arith) ∙ ap (λ x. x >>= then_on) z)
          (λ h. full (omega arith) ∙ ap (λ x. x >>= then_on) z)

      -- a whole pass is taken, and the walk goes on behind it
      fields_there : once ≤ m → take (wide es before once) (unmarked (drop before after)) ≡ map entry_of (take (wide es before once) rows)
      fields_there h = go w.behind
        where
          width : wide es before once ≡ m
          width = omega (arith, start_first rows f, w.same_length)

          go : Apart before once k → take (wide es before once) (unmarked (drop before after)) ≡ map entry_of (take (wide es before once) rows)
          go (inl q) =
              let d : drop before after ≡ ys ++ drop (e - k) (drop k xs) = drop_at (take k xs) (ys ++ drop (e - k) (drop k xs)) before (front_long ∙ q) in
              rw (d, width)
              (ap (take m) (map-append (λ e. e % 281474976710656) ys (drop (e - k) (drop k xs)))
              ∙ take_at (unmarked ys) (unmarked (drop (e - k) (drop k xs))) m (length-map ys (λ e. e % 281474976710656) ∙ ys_size)
              ∙ unmarked_ys)
          go (inr b) =
              let a : take k after ≡ take k es' =
              take_at (take k xs) (ys ++ drop (e - k) (drop k xs)) k front_long ∙ front in
              let t : take (wide es before once) (drop before after) ≡ take (wide es before once) (drop before es') =
              sym (middle before (wide es before once) after (omega (arith, after_long, start_first rows f, w.among)))
              ∙ ap (drop before) (sym (take-take (before + wide es before once) k after (omega arith)) ∙ ap (take (before + wide es before once)) a ∙ take-take (before + wide es before once) k es' (omega arith))
              ∙ middle before (wide es before once) es' (omega (arith, w.same_length, start_first rows f, w.among)) in
              take_map (λ e. e % 281474976710656) (wide es before once) (drop before after) ∙ ap unmarked t
              ∙ sym (take_map (λ e. e % 281474976710656) (wide es before once) (drop before es')) ∙ (now rows f).pass_there

      taken_on : (r : ℕ) → Through r p ys fs s → once ≤ m → PassingFor es s after before once o r e rows
      taken_on r t h =
          let old : List Note = (now rows f).notes in
          let n : length t.notes ≡ m = sym (length-map t.notes mark_of) ∙ ap length (sym t.marked) ∙ ys_size in
          let x : rows_from (now rows f).room p rows rows (drop p s) ≡ then_on (record { notes = t.notes; end = r; rest = drop r s }) =
          full h ∙ ap (λ x. x >>= then_on) t.cut in
          record {
            notes = old ++ t.notes;
            room = less;
            counted = omega (arith, length-append old t.notes, (now rows f).counted, n);
            room_is = omega (arith, w.among, w.same_length);
            whole = goes (then_on (record { notes = t.notes; end = r; rest = drop r s })) x ∙ both old t.notes (rows_from less r rows [] (drop r s));
            marks = ap (λ n. take n after) (e-is ∙ ap (λ x. x + m) (sym front_long)) ∙ take-append-add (take k xs) (ys ++ drop (e - k) (drop k xs)) m
                ∙ ap (λ l. take k xs ++ l) (take_at ys (drop (e - k) (drop k xs)) m ys_size)
                ∙ ap (λ l. l ++ ys) (front ∙ (now rows f).marks) ∙ ap (λ l. (take before es ++ map mark_of old) ++ l) t.marked
                ∙ append_assoc (take before es) (map mark_of old) (map mark_of t.notes) ∙ ap (λ l. take before es ++ l) (sym (map-append mark_of old t.notes));
            pass_there = fields_there h;
          }
        where
          both : (a b : List Note) (x : Result (List Note)) → ((x >>= λ ns. ok (b ++ ns)) >>= λ ns. ok (a ++ ns)) ≡ (x >>= λ ns. ok ((a ++ b) ++ ns))
          both a b (refuse n q) = refl
          both a b (ok ns) = ap (λ l. ok l) (sym (append_assoc a b ns))

  module _ (more : p < length s) (ys : List ℕ) where
    pub pass_stop : (x : Refusal) → ((fs : List Field) → Planned (take (e - k) (drop k xs)) fs → MarkedPart (Err x) p ys fs s)
        → (rows : List Field) → PassPlan es before once rows → MarkedPasses (Err x) es (rejoined ys) before o rows s
    pass_stop x part rows f =
        let own = part (take m rows) (part_planned rows f) in
        let marked = λ (fs : List Field) (h : Planned (take (e - k) (drop k xs)) fs). (part fs h).marks in
        answer_refused x es (rejoined ys) s before o rows (after_long more ys marked rows f)
        (goes more ys marked rows f (refuse (number_of x.reason) x.place) (refused_pass more ys marked rows f (number_of x.reason) x.place own.answered))

    module _ (r : ℕ) (part : (fs : List Field) → Planned (take (e - k) (drop k xs)) fs → MarkedPart (Ok r) p ys fs s) where
      each_marked : (fs : List Field) → Planned (take (e - k) (drop k xs)) fs → ys ≡ marks_from p fs (drop p s)
      each_marked fs h = (part fs h).marks

      pub pass_full : m < once → (rows : List Field) → PassPlan es before once rows
          → MarkedPasses (Err (record { reason = TooManyItems; place = r })) es (rejoined ys) before o rows s
      pass_full h rows f =
          answer_refused (record { reason = TooManyItems; place = r }) es (rejoined ys) s before o rows (after_long more ys each_marked rows f)
          (goes more ys each_marked rows f (refuse 10 r)
          (short more ys each_marked rows f h ∙ ap (λ x. x >>= λ c. refuse 10 c.end) (part (take m rows) (part_planned rows f)).answered.cut))

      pub pass_more : IsPassPlan es before once → once ≤ m → r ≤ length s → Passing es s (rejoined ys) before once o r e
      pass_more x h l =
          record {
            among = omega (arith, w.among, w.same_length);
            within = l;
            behind = inr (omega (arith, start_first x.rows x.pass_plan));
            same_length = after_long more ys each_marked x.rows x.pass_plan;
            each = λ rows f. taken_on more ys each_marked rows f r (part (take m rows) (part_planned rows f)).answered h;
          }

-- a pass would begin with no data left
pub pass_good : (es s es' : List ℕ) (before once o p k : ℕ) → Passing es s es' before once o p k → length s ≤ p → (rows : List Field) → PassPlan es before once rows
    → MarkedPasses (Ok k) es es' before o rows s
pass_good es s es' before once o p k w q rows f =
    let now = w.each rows f in
    let d : drop p s ≡ [] = drop_of_length-le s q in
    let z : rows_from (length es - before) o rows [] (drop o s) ≡ ok now.notes =
    now.whole ∙ ap (λ l. rows_from now.room p rows [] l >>= λ ns. ok (now.notes ++ ns)) d ∙ ap (λ x. x >>= λ ns. ok (now.notes ++ ns)) (rows_end rows now.room p)
    ∙ ap (λ ns. ok ns) (append-nil now.notes) in
    record {
      answered = rw (z, now.counted);
      marks = λ ns y. let e : now.notes ≡ ns = cc in rw (← e, now.counted) now.marks;
      same_length = w.same_length;
      few = w.among;
    }

-- what is copied stands before its place, or at it, and there is room for it
module _ (es s es' : List ℕ) (before once o p k m : ℕ) (w : Passing es s es' before once o p k) (e : m ≡ min once (length es' - k)) where
  pub copy_apart : Apart before m k
  copy_apart = go w.behind
    where
      go : Apart before once k → Apart before m k
      go (inl q) = inl q
      go (inr b) = inr (omega arith)

  pub copy_fits : k + m ≤ length es'
  copy_fits = omega (arith, w.among, w.same_length)
