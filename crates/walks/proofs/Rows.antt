-- Rows to the end behind the fields before them: the walk over these fields comes first.
-- Assumes nothing.
use Prim.Native.Nat.{ℕ, ◌+◌, ◌-◌, ◌%◌, ◌≤◌}
use mathlib.Core.Path.{◌≡◌, refl, sym, ap, ◌∙◌}
use mathlib.Core.List.{List, [], ◌++◌, map, map-append}
use native.Mathlib.Omega.{arith}
use lib.ListN.{length, take, drop, length-append, length-drop, length-map}
use lib.Seq.{take_at, drop_at, take-take, take-append-add, length-take-le}
use Rattle.std.specs.Prelude.{Ok, Err, IfOk}
use Rattle.std.specs.Prelude as code
use Rattle.fdoca.specs.declared.Refusal.{Refusal}
use Rattle.fdoca.specs.Basics.{Result, refuse, ok, ◌>>=◌}
use Rattle.fdoca.specs.Item.{Field}
use Rattle.fdoca.specs.Returned.{number_of}
use Rattle.fdoca.specs.Walk.{Note, Cut, cut_from, rows_from}
use Rattle.fdoca.proofs.Results.{ok_bind}
use Rattle.fdoca.proofs.Rows.{rows_through}
use Rattle.fields.specs.Plan.{entry_of, Planned}
use Rattle.walks.specs.Marks.{mark_of, marks_from, Through, MarkedPart}
use Rattle.walks.specs.Finding.{IsPlan}
use Rattle.walks.specs.Passes.{unmarked, wide, PassPlan, IsPassPlan, MarkedPasses, RowPlan, IsRowPlan, MarkedRows}
use Rattle.walks.proofs.Passing.{take_map, middle, proper_part, unmarked_planned, unmarked_marks}

module _ (es s : List ℕ) (before once : ℕ) where
  module _ (bs rows : List Field) (f : RowPlan es before once bs rows) where
    before_long : length (map entry_of bs) ≡ before
    before_long = length-map bs entry_of ∙ f.before_is

    -- the first n entries
    first : (n : ℕ) → n ≤ before + once → n ≤ length es → take n es ≡ take n (map entry_of bs ++ map entry_of rows)
    first n h l =
        sym (take-take n (before + once) es h) ∙ ap (take n) f.entries ∙ take-take n (length es) (map entry_of (bs ++ rows)) l
        ∙ ap (take n) (map-append entry_of bs rows)

    planned_before : Planned (take before es) bs
    planned_before =
        let e : take before es ≡ map entry_of bs =
        first before (omega arith) f.has_room ∙ take_at (map entry_of bs) (map entry_of rows) before before_long in
        rw e f.proper_before

    pass_entries : take (wide es before once) (unmarked (drop before es)) ≡ map entry_of (take (wide es before once) rows)
    pass_entries =
        let w : ℕ = wide es before once in
        let t : take w (drop before es) ≡ map entry_of (take w rows) =
        sym (middle before w es f.has_room) ∙ ap (drop before) (first (before + w) (omega arith) (omega (arith, f.has_room)))
        ∙ ap (λ n. drop before (take (n + w) (map entry_of bs ++ map entry_of rows))) (sym before_long)
        ∙ ap (drop before) (take-append-add (map entry_of bs) (map entry_of rows) w)
        ∙ drop_at (map entry_of bs) (take w (map entry_of rows)) before before_long
        ∙ take_map entry_of w rows in
        take_map (λ e. e % 281474976710656) w (drop before es) ∙ ap unmarked t ∙ unmarked_planned (proper_part w rows f.proper_rows)

  pub before_counted : IsRowPlan es before once → before ≡ length (take before es)
  before_counted x = sym (length-take-le before es x.row_plan.has_room)

  pub before_is_plan : IsRowPlan es before once → IsPlan (take before es)
  before_is_plan x = record { fields = x.fields_before; planned = planned_before x.fields_before x.rows x.row_plan }

  -- the fields before have been walked over
  module _ (ys : List ℕ) (marked : (fs : List Field) → Planned (take before es) fs → ys ≡ marks_from 0 fs s) where
    abbrev after : List ℕ
    after = ys ++ drop before es

    module _ (bs rows : List Field) (f : RowPlan es before once bs rows) where
      ys_long : length ys ≡ before
      ys_long =
          sym (length-map ys (λ e. e % 281474976710656))
          ∙ ap length (ap unmarked (marked bs (planned_before bs rows f)) ∙ unmarked_marks 0 s (planned_before bs rows f))
          ∙ length-take-le before es f.has_room

      long : length after ≡ length es
      long = length-append ys (drop before es) ∙ omega (arith, length-drop before es, ys_long, f.has_room)

      abbrev onward : Cut → Result (List Note)
      onward c = rows_from (length es - before) c.end rows [] c.rest >>= λ ns. ok (c.notes ++ ns)

      through : rows_from (length es) 0 rows bs s ≡ (cut_from 0 bs s >>= onward)
      through =
          let e : length es ≡ length bs + (length es - before) = omega (arith, f.before_is, f.has_room) in
          ap (λ n. rows_from n 0 rows bs s) e ∙ rows_through rows bs (length es - before) 0 s

      stopped : (x : Refusal) → cut_from 0 bs s ≡ refuse (number_of x.reason) x.place → MarkedRows (Err x) es after bs rows s
      stopped x z =
          let e : rows_from (length es) 0 rows bs s ≡ refuse (number_of x.reason) x.place = through ∙ ap (λ x. x >>= onward) z in
          record {
            answered = rw e;
            marks = λ ns y. absurd (let z : ◌≡◌ {A = ℕ} 0 1 = cc in let o : ⊥ = omega arith in o);
            same_length = long;
            few = tt;
          }

      pass_plan : PassPlan after before once rows
      pass_plan =
          record {
            proper_rows = f.proper_rows;
            once_is = f.once_is;
            has_room = omega (arith, long, f.has_room);
            has_rows = f.has_rows;
            entries = rw (long, drop_at ys (drop before es) before ys_long) (pass_entries bs rows f);
          }

      module _ (r : ℕ) (own : Through r 0 ys bs s) (a : code.Result ℕ Refusal) (plan : List ℕ) where
        notes_long : length own.notes ≡ before
        notes_long = sym (length-map own.notes mark_of) ∙ ap length (sym own.marked) ∙ ys_long

        whole : rows_from (length es) 0 rows bs s ≡ (rows_from (length es - before) r rows [] (drop r s) >>= λ ns. ok (own.notes ++ ns))
        whole = through ∙ ap (λ x. x >>= onward) own.cut

        counted : (x : Result (List Note)) → (x >>= λ ns. ok (before + length ns)) ≡ ((x >>= λ ns. ok (own.notes ++ ns)) >>= λ ns. ok (length ns))
        counted (refuse n p) = refl
        counted (ok ns) = ap (λ n. ok n) (ap (λ n. n + length ns) (sym notes_long) ∙ sym (length-append own.notes ns))

        fewer : (a : code.Result ℕ Refusal) → IfOk a (λ n. n ≤ length after) → IfOk a (λ n. n ≤ length es)
        fewer (Err x) h = tt
        fewer (Ok n) h = omega (arith, long)

        joined : MarkedPasses a after plan before r rows s → MarkedRows a es plan bs rows s
        joined w =
            record {
              answered = w.answered ∙ ap (λ n. rows_from (n - before) r rows [] (drop r s) >>= λ ns. ok (before + length ns)) long
                  ∙ counted (rows_from (length es - before) r rows [] (drop r s)) ∙ ap (λ x. x >>= λ ns. ok (length ns)) (sym whole);
              marks = λ all y.
                  let (ns, e, q) = ok_bind (rows_from (length es - before) r rows [] (drop r s)) (λ ns. ok (own.notes ++ ns)) all (sym whole ∙ y) in
                  let k : own.notes ++ ns ≡ all = cc in
                  let t : take (before + length ns) plan ≡ take before after ++ map mark_of ns =
                  w.marks ns (ap (λ n. rows_from (n - before) r rows [] (drop r s)) long ∙ e) in
                  rw (← k) (ap (λ n. take n plan) (length-append own.notes ns ∙ ap (λ n. n + length ns) notes_long) ∙ t
                  ∙ ap (λ l. l ++ map mark_of ns) (take_at ys (drop before es) before ys_long ∙ own.marked) ∙ sym (map-append mark_of own.notes ns));
              same_length = w.same_length ∙ long;
              few = fewer a w.few;
            }

  pub first_stop : (ys : List ℕ) (x : Refusal) → ((fs : List Field) → Planned (take before es) fs → MarkedPart (Err x) 0 ys fs s)
      → (bs rows : List Field) → RowPlan es before once bs rows → MarkedRows (Err x) es (ys ++ drop before es) bs rows s
  first_stop ys x part bs rows f = stopped ys (λ fs h. (part fs h).marks) bs rows f x (part bs (planned_before bs rows f)).answered

  module _ (ys : List ℕ) (r : ℕ) (part : (fs : List Field) → Planned (take before es) fs → MarkedPart (Ok r) 0 ys fs s) where
    each_marked : (fs : List Field) → Planned (take before es) fs → ys ≡ marks_from 0 fs s
    each_marked fs h = (part fs h).marks

    pub passes_asked : IsRowPlan es before once → IsPassPlan (ys ++ drop before es) before once
    passes_asked x = record { rows = x.rows; pass_plan = pass_plan ys each_marked x.fields_before x.rows x.row_plan }

    pub after_fits : IsRowPlan es before once → length es ≤ 4096 → length (ys ++ drop before es) ≤ 4096
    after_fits x h = omega (arith, long ys each_marked x.fields_before x.rows x.row_plan)

    pub rows_marked : (a : code.Result ℕ Refusal) (plan : List ℕ)
        → ((rows : List Field) → PassPlan (ys ++ drop before es) before once rows → MarkedPasses a (ys ++ drop before es) plan before r rows s)
        → (bs rows : List Field) → RowPlan es before once bs rows → MarkedRows a es plan bs rows s
    rows_marked a plan each bs rows f =
        joined ys each_marked bs rows f r (part bs (planned_before bs rows f)).answered a plan (each rows (pass_plan ys each_marked bs rows f))
