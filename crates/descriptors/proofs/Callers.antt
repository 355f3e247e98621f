-- What a caller knows of an examined descriptor: its refusal, and that a plan of as many entries as there are items stands for the unfolding.
-- Assumes nothing.
use mathlib.Core.Path.{◌≡◌, refl, sym, ap, ◌∙◌}
use Prim.Native.Nat.{ℕ, ◌≤◌}
use native.Mathlib.Omega.{arith}
use mathlib.Core.Bool.{Bool}
use mathlib.Core.List.{List, map}
use lib.ListN.{length}
use lib.Seq.{sets, length-sets, take_all}
use Rattle.std.specs.Prelude.{Err}
use Rattle.fdoca.specs.declared.Refusal.{Refusal}
use Rattle.fdoca.specs.Basics.{refuse, ok}
use Rattle.fdoca.specs.Basics as defined
use Rattle.fdoca.specs.Returned.{reason_of, returned}
use Rattle.fdoca.specs.Check.{check}
use Rattle.fdoca.specs.Unfolding.{unfolded, repeated}
use Rattle.fields.specs.Plan.{entry_of, Planned}
use Rattle.plans.specs.Tied.{described_by, list_of}
use Rattle.plans.proofs.Fields.{planned, first_numbers}
use Rattle.descriptors.specs.Holds.{Ready, examined, Examination}

-- the check's refusal, which examining gave
pub record RefusedBy (d : List ℕ) (w : Refusal) : Type 0 where
  pub number : ℕ
  pub place : ℕ
  pub refused : check d ≡ refuse number place
  pub same : w ≡ record { reason = reason_of number; place = place }

pub refused_by_lem : (d s z e : List ℕ) (w : Refusal) → Examination d s z e (Err w) → RefusedBy d w
refused_by_lem d s z e w x = go (check d) refl x.result
  where
    go : (c : defined.Result ℕ) → check d ≡ c → Err w ≡ examined c (described_by d) (repeated d) → RefusedBy d w
    go (refuse n p) k q = record { number = n; place = p; refused = k; same = cc }
    go (ok n) k q = absurd (let y : ⊥ = cc in y)

-- what it tells of the check
pub refused_check : (d s z e : List ℕ) (w : Refusal) → Examination d s z e (Err w) → Err w ≡ returned (check d)
refused_check d s z e w x = go (refused_by_lem d s z e w x)
  where
    go : RefusedBy d w → Err w ≡ returned (check d)
    go r = rw (r.refused, r.same)

module _ (d s z e plan : List ℕ) (id : ℕ) (rows : Bool) (rd : Ready d s z e id (length plan) rows) where
  pub ready_room : length (list_of d id) ≤ length plan
  ready_room = omega (arith, rd.count, ap length rd.whole)

  module _ (plan' : List ℕ) (written : plan' ≡ sets plan 0 (map entry_of (list_of d id))) where
    is_plan : plan' ≡ map entry_of (list_of d id)
    is_plan =
        let long : length (sets plan 0 (map entry_of (list_of d id))) ≡ length plan = length-sets plan 0 (map entry_of (list_of d id)) in
        let same : length (list_of d id) ≡ length plan = sym (ap length rd.whole) ∙ sym rd.count in
        written
        ∙ sym (take_all (length (list_of d id)) (sets plan 0 (map entry_of (list_of d id))) (omega arith))
        ∙ first_numbers plan (list_of d id) ready_room

    pub for_unfolding : Planned plan' (unfolded d)
    for_unfolding = rw (is_plan, rd.whole) (planned d s z e rd.tied id rd.known)
