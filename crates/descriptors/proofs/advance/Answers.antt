use mathlib.Core.Path.{refl}
use native.Mathlib.Omega.{arith}
use Rattle.descriptors.proofs.Moving.{torn_short, torn_past}
use Rattle.descriptors.proofs.Advancing.{held_few, cpt_stopped, over_cpt, sda_stopped, over_sda, row_stopped, over_row, isd_stopped, over_isd, over_other}
use borrow.Author.Rules.{rules}
use Rattle.descriptors.proofs.advance.Goals as goal
use Rattle.descriptors.proofs.advance.Goals.{then-n-lt2-via-then-n-lt2, then-n-lt2-via-else-n-lt2+then-desc-p}

pub returns-then-n-lt2 : goal.returns-then-n-lt2
returns-then-n-lt2 c =
    elim c.then-n-lt2.branch [
      | then-n-lt2-via-then-n-lt2 w ↦ torn_short _ _ _ _ _ c.requires.0 c.requires.1 c.from-n.ensures w.if-n-lt2.true
      | then-n-lt2-via-else-n-lt2+then-desc-p w ↦ torn_past _ _ _ _ _ c.requires.0 c.requires.1 c.from-n.ensures w.if-n-lt2.false w.if-desc-p.true
    ]

pub cpt_step-requires : goal.cpt_step-requires
cpt_step-requires c = search (rules, held_few)

pub returns-in_err-cpt_step : goal.returns-in_err-cpt_step
returns-in_err-cpt_step c = cpt_stopped _ _ _ _ _ _ c.requires.0 c.requires.1 c.from-n.ensures c.if-n-lt2.false c.if-desc-p.false refl _ _ c.if-kind-eq-CPT.true c.in_err-cpt_step.ensures c.from_residual.ensures.1

pub returns-then-kind-eq-CPT : goal.returns-then-kind-eq-CPT
returns-then-kind-eq-CPT c = over_cpt _ _ _ _ _ _ c.requires.0 c.requires.1 c.from-n.ensures c.if-n-lt2.false c.if-desc-p.false refl _ c.if-kind-eq-CPT.true c.in_ok-cpt_step.ensures

pub returns-in_err-sda_step-in-112 : goal.returns-in_err-sda_step-in-112
returns-in_err-sda_step-in-112 c = sda_stopped _ _ _ _ _ _ c.requires.0 c.requires.1 c.from-n.ensures c.if-n-lt2.false c.if-desc-p.false refl _ c.close.ensures c.if-kind-eq-CPT.false _ _ _ c.in-112.is c.in_err-sda_step-in-112.ensures c.from_residual-in_err-sda_step-in-112.ensures.1

pub returns-in_ok-sda_step-in-112 : goal.returns-in_ok-sda_step-in-112
returns-in_ok-sda_step-in-112 c = over_sda _ _ _ _ _ _ c.requires.0 c.requires.1 c.from-n.ensures c.if-n-lt2.false c.if-desc-p.false refl _ c.close.ensures c.if-kind-eq-CPT.false _ _ c.requires.2 c.in-112.is c.in_ok-sda_step-in-112.ensures

pub returns-in_err-row_step-in-113 : goal.returns-in_err-row_step-in-113
returns-in_err-row_step-in-113 c = row_stopped _ _ _ _ _ _ c.requires.0 c.requires.1 c.from-n.ensures c.if-n-lt2.false c.if-desc-p.false refl _ c.close.ensures c.if-kind-eq-CPT.false _ _ c.in-113.is c.in_err-row_step-in-113.ensures c.from_residual-in_err-row_step-in-113.ensures.1

pub returns-in_ok-row_step-in-113 : goal.returns-in_ok-row_step-in-113
returns-in_ok-row_step-in-113 c = over_row _ _ _ _ _ _ c.requires.0 c.requires.1 c.from-n.ensures c.if-n-lt2.false c.if-desc-p.false refl _ c.close.ensures c.if-kind-eq-CPT.false _ c.in-113.is c.in_ok-row_step-in-113.ensures

pub returns-in_err-judge_isd-in-126 : goal.returns-in_err-judge_isd-in-126
returns-in_err-judge_isd-in-126 c = isd_stopped _ _ _ _ _ _ c.requires.0 c.requires.1 c.from-n.ensures c.if-n-lt2.false c.if-desc-p.false refl _ c.close.ensures c.if-kind-eq-CPT.false _ _ c.in-126.is c.in_err-judge_isd-in-126.ensures c.from_residual-in_err-judge_isd-in-126.ensures.1

pub returns-in_ok-judge_isd-in-126 : goal.returns-in_ok-judge_isd-in-126
returns-in_ok-judge_isd-in-126 c = over_isd _ _ _ _ _ _ c.requires.0 c.requires.1 c.from-n.ensures c.if-n-lt2.false c.if-desc-p.false refl _ c.close.ensures c.if-kind-eq-CPT.false c.in-126.is c.in_ok-judge_isd-in-126.ensures

pub returns-in_default : goal.returns-in_default
returns-in_default c =
    over_other _ _ _ _ _ _ c.requires.0 c.requires.1 c.from-n.ensures c.if-n-lt2.false c.if-desc-p.false refl _ c.close.ensures c.if-kind-eq-CPT.false (grind arith) (grind arith) (grind arith) (grind arith)
