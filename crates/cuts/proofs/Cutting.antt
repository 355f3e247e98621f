-- What the walk over a plan says of a block is what the definitions say of its items, with rows to the end or without.
-- Assumes nothing.
use Rattle.std.specs.Prelude.{Result, Ok, Err}
use mathlib.Core.Path.{◌≡◌, refl, sym, ap, ◌∙◌}
use Prim.Native.Nat.{ℕ, ◌-◌, ◌≤◌, ◌<◌}
use native.Mathlib.Omega.{arith}
use mathlib.Core.Bool.{true, false, true≢false}
use mathlib.Core.List.{List, [], ◌∷◌, ◌++◌, map}
use lib.ListN.{length, take, length-map}
use lib.Seq.{sets, length-sets, take_all}
use Rattle.fdoca.specs.declared.Refusal.{Refusal}
use Rattle.fdoca.specs.Returned.{number_of, returned}
use Rattle.fdoca.specs.Basics as defined
use Rattle.fdoca.specs.Basics.{refuse, ok, ◌>>=◌}
use Rattle.fdoca.proofs.Returned.{reason_of-number_of, returned-answer}
use Rattle.fdoca.specs.Item.{Field}
use Rattle.fdoca.specs.Walk.{Note, walk, rows_from, walk_rows, walk_by}
use Rattle.fdoca.specs.Unfolding.{unfolded, endless}
use Rattle.fdoca.proofs.Data.{not_endless}
use Rattle.fields.specs.Plan.{entry_of, Planned}
use Rattle.plans.specs.Tied.{list_of}
use Rattle.plans.proofs.Fields.{planned}
use Rattle.rows.specs.Pass.{pass_list, PassAt, Room}
use Rattle.rows.proofs.Callers.{pass_planned}
use Rattle.descriptors.specs.Holds.{Ready}
use Rattle.descriptors.proofs.Callers.{for_unfolding}
use Rattle.walks.specs.Marks.{mark_of, Marked}
use Rattle.walks.specs.Finding.{IsPlan}
use Rattle.walks.specs.Passes.{RowPlan, IsRowPlan, MarkedRows}
use Rattle.walks.proofs.Callers.{as_many, all_noted, good_marks, refused_with_items, good_with_items}
use Rattle.walks.proofs.RowCallers.{row_plan, rows_noted}
use Rattle.descriptors.specs.declared.Examined.{Examined}
use Rattle.cuts.specs.Cut.{items_of, Fitting, MarksOf, CutAs}

-- without rows to the end
module _ (d s z e plan : List ℕ) (id : ℕ) (rd : Ready d s z e id (length plan) false) (plan' : List ℕ) (written : plan' ≡ sets plan 0 (map entry_of (list_of d id))) where
  plans : Planned plan' (unfolded d)
  plans = for_unfolding d s z e plan id false rd plan' written

  pub is_plan : IsPlan plan'
  is_plan = record { fields = unfolded d; planned = plans }

  module _ (x plan'' : List ℕ) where
    items_are : items_of d x ≡ walk (unfolded d) x
    unfolding walk_by
    items_are = rw (rd.no_rows refl)

    pub items_stopped : (e : Refusal) → ((fs : List Field) → Planned plan' fs → Marked (Err e) plan'' fs x) → CutAs d x plan'' (Err e)
    items_stopped e f =
        let h : items_of d x ≡ refuse (number_of e.reason) e.place = items_are ∙ refused_with_items (walk (unfolded d) x) (λ ns. tt) (number_of e.reason) e.place (f (unfolded d) plans).answered in
        record {
          counted = rw (h, reason_of-number_of e.reason);
          marked = λ ns g. absurd (let z : ◌≡◌ {A = ℕ} 0 1 = cc in let o : ⊥ = omega arith in o);
        }

    pub items_cut : (u : Unit {0}) → ((fs : List Field) → Planned plan' fs → Marked (Ok u) plan'' fs x) → CutAs d x plan'' (Ok (length plan''))
    items_cut u f =
        let (ns, h, _) = good_with_items (walk (unfolded d) x) (λ ns. tt) u (f (unfolded d) plans).answered in
        let m : plan'' ≡ map mark_of ns = (f (unfolded d) plans).marks ∙ good_marks (unfolded d) x ns h in
        let l : length plan'' ≡ length ns = ap length m ∙ length-map ns mark_of in
        let c : length ns ≡ length plan = as_many plan' (unfolded d) x ns plans h ∙ ap length written ∙ length-sets plan 0 (map entry_of (list_of d id)) in
        let all : MarksOf ns plan'' =
        record {
          marks = rw (← l) (take_all (length plan'') plan'' (omega arith) ∙ m);
          noted = all_noted plan' (unfolded d) x ns plans h;
          few = omega (arith, rd.small);
          within = omega arith;
        } in
        let same : (ms : List Note) → items_of d x ≡ ok ms → ns ≡ ms = λ ms e. (let y : walk (unfolded d) x ≡ ok ms = sym items_are ∙ e in cc) in
        record { counted = rw (items_are, h, l); marked = λ ms e. (let y : ns ≡ ms = same ms e in rw (← y) all) }

-- with rows to the end
module _ (d s z e plan : List ℕ) (id before : ℕ) (rd : Ready d s z e id before true) (size : 4096 ≡ length plan) where
  abbrev rows : List Field
  rows = pass_list d (length d - 3)

  pub before_is : before ≡ length (list_of d id)
  before_is = rd.count ∙ ap length rd.whole

  pub before_fits : before ≤ length plan
  before_fits = omega (arith, rd.small)

  pub rows_there : 3 ≤ length d
  rows_there = omega (arith, (rd.pass refl).inside)

  pub pass_at : PassAt d (length d - 3)
  pass_at = rd.pass refl

  pub room_at : Room d e (length d - 3) (length plan)
  room_at = rw (← size) (rd.room refl)

  pub plan_most : length plan ≤ 4096
  plan_most = omega arith

  some_rows : 0 < length rows
  some_rows = go rows (not_endless d before rd.accepted rows (rd.repeats refl))
    where
      go : (l : List Field) → endless l ≡ false → 0 < length l
      go [] h = absurd (true≢false h)
      go (f ∷ l) h = omega arith

  module _ (plan' : List ℕ) (once : ℕ) (count : once ≡ length rows)
      (written : plan' ≡ sets plan 0 (take (length plan) (map entry_of (list_of d id ++ rows)))) where
    plans_rows : RowPlan plan' before once (list_of d id) rows
    plans_rows =
        row_plan plan plan' before once (list_of d id) rows (planned d s z e rd.tied id rd.known) (pass_planned d s z e rd.tied (length d - 3) (rd.pass refl))
        (sym before_is) (sym count) before_fits (rw count some_rows) written

    pub is_row_plan : IsRowPlan plan' before once
    is_row_plan = record { fields_before = list_of d id; rows = rows; row_plan = plans_rows }

    rows_long : length plan' ≡ 4096
    rows_long = ap length written ∙ length-sets plan 0 (take (length plan) (map entry_of (list_of d id ++ rows))) ∙ sym size

    pub marks_most : length plan' ≤ 4096
    marks_most = omega (arith, rows_long)

    pub rows_cut : (x plan'' : List ℕ) (r : Result ℕ Refusal) → ((bs rows : List Field) → RowPlan plan' before once bs rows → MarkedRows r plan' plan'' bs rows x) → CutAs d x plan'' r
    unfolding walk_by walk_rows
    rows_cut x plan'' r f =
        let m : MarkedRows r plan' plan'' (list_of d id) rows x = f (list_of d id) rows plans_rows in
        let c : r ≡ returned (items_of d x >>= (λ ns. ok (length ns))) =
        sym (returned-answer r) ∙ ap returned (m.answered ∙ ap (λ (w : defined.Result (List Note)). w >>= (λ ns. ok (length ns))) walks) in
        record {
          counted = c;
          marked = λ ns h. (
              let q : r ≡ Ok (length ns) = c ∙ rw h in
              let few : length ns ≤ length plan' = rw q at m.few in
              record {
                marks = m.marks ns (walks ∙ h);
                noted = rows_noted (length plan') rows (list_of d id) x ns plans_rows.proper_rows plans_rows.proper_before (walks ∙ h);
                few = omega (arith, rows_long);
                within = omega (arith, m.same_length);
              });
        }
      where
        walks : rows_from (length plan') 0 rows (list_of d id) x ≡ items_of d x
        walks = rw (rows_long, ← rd.whole, rd.repeats refl)

-- by whether there are rows to the end
module _ (d s z e plan : List ℕ) (x : Examined) (rd : Ready d s z e x.id x.items x.rows) (fit : Fitting x plan) where
  pub ready_items : x.rows ≡ false → Ready d s z e x.id (length plan) false
  ready_items h = rw (← fit) (rw h rd_as)
    where
      rd_as : Ready d s z e x.id x.items false
      rd_as = rw h at rd

  pub ready_rows : x.rows ≡ true → Ready d s z e x.id x.items true
  ready_rows h = rw h at rd

  pub most_room : x.rows ≡ true → 4096 ≡ length plan
  most_room h = rw h at fit
