-- The text of a descriptor and its data: from the cut on, and from the check on.
-- Assumes nothing.
use Rattle.std.specs.Prelude.{Ok, Err}
use mathlib.Core.Path.{◌≡◌, refl, sym, ap, ◌∙◌}
use Prim.Native.Nat.{ℕ, ◌+◌, ◌≤◌}
use native.Mathlib.Omega.{arith}
use mathlib.Core.List.{List}
use lib.ListN.{length, take, replicate, length-replicate}
use lib.Seq.{length-take-le}
use borrow.Author.Tests.{le-ltb}
use Rattle.fdoca.specs.declared.Refusal.{Refusal}
use Rattle.fdoca.specs.Basics.{Result, refuse, ok}
use Rattle.fdoca.specs.Returned.{number_of, reason_of, returned, answer}
use Rattle.fdoca.specs.Check.{check}
use Rattle.fdoca.proofs.Data.{data_told}
use Rattle.fdoca.proofs.Numbers.{data_number, told_again}
use Rattle.fdoca.proofs.Demands.{check_returned}
use Rattle.fdoca.specs.Dump.{refused_line, item_lines, block_notes}
use Rattle.descriptors.specs.declared.Examined.{Examined}
use Rattle.descriptors.specs.Holds.{Ready, Examination}
use Rattle.descriptors.proofs.Callers.{refused_check}
use Rattle.cuts.specs.Cut.{items_of, entries_for, Fitting, CutAs}
use Rattle.cuts.proofs.Callers.{Items, cut_refused, cut_good, marked_part_lem}
use Rattle.listing.specs.declared.Text.{Text}
use Rattle.listing.specs.Put.{Put, Told}
use Rattle.listing.specs.Lines.{first_line, entry_lines, EachMeasured}
use Rattle.listing.proofs.Putting.{both}
use Rattle.listing.proofs.Standing.{same_lines, marks_measured}

-- the line of a refusal that was returned
record RefusedAs {A : Type 0} (c : Result A) (w : Refusal) : Type 0 where
  number : ℕ
  place : ℕ
  is : c ≡ refuse number place
  line : refused_line (number_of w.reason) w.place ≡ refused_line number place

refused_as : {A : Type 0} (c : Result A) (w : Refusal) → answer (returned c) ≡ c → Err w ≡ returned c → RefusedAs c w
refused_as (refuse n p) w h e =
    let q : w ≡ record { reason = reason_of n; place = p } = cc in
    let m : number_of (reason_of n) ≡ n = cc in
    record { number = n; place = p; is = refl; line = rw (q, m) }
refused_as (ok a) w h e = absurd (let z : ◌≡◌ {A = ℕ} 0 1 = cc in let o : ⊥ = omega arith in o)

-- ---- `write_by`

module _ (d s z e : List ℕ) (x : Examined) (rd : Ready d s z e x.id x.items x.rows) (y plan : List ℕ) where
  pub refused_text : (w : Refusal) → CutAs d y plan (Err w) → (t t' : Text) → t.len ≡ 0 → Put t t' (refused_line (number_of w.reason) w.place) → t'.len ≤ t.len + 30 → Told t t' (length y) (items_of d y)
  refused_text w k t t' fresh p l =
      let again : answer (returned (items_of d y)) ≡ items_of d y = told_again (λ t m p r. data_number r) (data_told d x.items rd.accepted y) in
      let q = refused_as (items_of d y) w again (cut_refused d y plan x.items rd.accepted w k) in
      rw q.is (record { put = rw (← q.line) p; fits = omega arith })

  module _ (n : ℕ) (k : CutAs d y plan (Ok n)) where
    good : Items d y plan n
    good = cut_good d y plan x.items rd.accepted n k

    pub count_few : n ≤ 4096
    count_few = good.few

    pub count_within : n ≤ length plan
    count_within = good.within

    pub part_counted : n ≡ length (take n plan)
    part_counted = marked_part_lem d y plan x.items rd.accepted n k

    pub part_few : length (take n plan) ≤ 4096
    part_few = omega (arith, part_counted, count_few)

    pub all_measured : EachMeasured (take n plan) y
    all_measured = rw good.marks (marks_measured good.notes y good.noted good.stands)

    pub items_text : (t u t' : Text) → Put t u (first_line n (length y)) → Put u t' (entry_lines 0 (take n plan) y) → t'.len ≤ 90112 → Told t t' (length y) (items_of d y)
    unfolding first_line
    items_text t u t' p q few =
        let l : entry_lines 0 (take n plan) y ≡ item_lines 0 good.notes = ap (λ es. entry_lines 0 es y) good.marks ∙ same_lines 0 good.notes y good.noted good.stands in
        record { put = rw (good.items_are, ← good.count_is, ← l) (both p q); fits = few }

-- ---- `write_block`

-- the part of the buffer that the plan takes
module _ (x : Examined) (n : ℕ) (few : n ≤ 4096) where
  abbrev part : List ℕ
  part = take n (replicate 4096 0)

  pub part_long : n ≡ length part
  part_long =
      let buffer : List ℕ = replicate 4096 0 in
      let l : length buffer ≡ 4096 = length-replicate {A = ℕ} 4096 0 in
      sym (length-take-le n buffer (omega arith))

  pub part_fits : n ≡ entries_for x → Fitting x part
  part_fits e = sym e ∙ part_long

-- what an examination tells of a descriptor
module _ (d s z e y : List ℕ) (t t' : Text) (small : length d ≤ 4096) (few : length y ≤ 32768) where
  pub check_text : (w : Refusal) → Examination d s z e (Err w) → t.len ≡ 0 → Put t t' (refused_line (number_of w.reason) w.place) → t'.len ≤ t.len + 30 → Told t t' (length y) (block_notes d y)
  unfolding block_notes
  check_text w x fresh p l =
      let q = refused_as (check d) w (check_returned d) (refused_check d s z e w x) in
      rw (le-ltb 4096 (length d) small, le-ltb 32768 (length y) few, q.is) (record { put = rw (← q.line) p; fits = omega arith })

  pub walk_text : (x : Examined) → Examination d s z e (Ok x) → Told t t' (length y) (items_of d y) → Told t t' (length y) (block_notes d y)
  unfolding block_notes
  walk_text x w p = rw (le-ltb 4096 (length d) small, le-ltb 32768 (length y) few, (w.ready x refl).accepted) p

-- an accepted descriptor's tables
module _ (d s z e : List ℕ) (x : Examined) (w : Examination d s z e (Ok x)) where
  pub is_ready : Ready d s z e x.id x.items x.rows
  is_ready = w.ready x refl

  pub few_items : x.items ≤ 4096
  few_items = is_ready.small
