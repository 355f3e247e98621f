use mathlib.Core.Path.{◌≡◌, sym, ◌∙◌}
use native.Mathlib.Omega.{arith}
use Rattle.std.proofs.lemmas.Result.{err_from_is_err_and}
use Rattle.fdoca.specs.declared.Reason.TheVariants.{BadLength, BadParameter}
use Rattle.sdas.proofs.Sda.{sda_bad_length, sda_bad, sda_taken, sda_many, sda_fine}
use Rattle.sdas.proofs.judge_sda.Goals as goal

pub returns-in_err-sda : goal.returns-in_err-sda
returns-in_err-sda c =
    let p = err_from_is_err_and c.from_residual.result c.from_residual.ensures.1 in
    let none = c.in_err-sda.ensures.ok_part in
    let value = rw none at c.in_err-sda.ensures.value in
    let reason : c.in_err-sda.field-0.0 ≡ BadLength = cc in
    rw (p.1, p.2, reason) (sda_bad_length _ _ (rw none at c.new.ensures))

pub returns-in_err-shape : goal.returns-in_err-shape
returns-in_err-shape c =
    let p = err_from_is_err_and c.from_residual-in_err-shape.result c.from_residual-in_err-shape.ensures.1 in
    let none = c.in_err-shape.ensures.ok_part in
    let value = rw none at c.in_err-shape.ensures.value in
    let reason : c.in_err-shape.field-0.0 ≡ BadParameter = cc in
    rw (p.1, p.2, reason)
    (sda_bad _ _ c.in_ok-sda.sda.bytes.now (rw c.in_ok-sda.ensures.ok_part at c.new.ensures) c.in_ok-sda.sda.good_length (sym none ∙ c.shape.ensures))

pub returns-then-is_described : goal.returns-then-is_described
returns-then-is_described c =
    sda_taken _ _ c.in_ok-sda.sda.bytes.now (rw c.in_ok-sda.ensures.ok_part at c.new.ensures) c.in_ok-sda.sda.good_length _
    (sym c.in_ok-shape.ensures.ok_part ∙ c.shape.ensures) _ c.id.ensures (omega arith) c.if-is_described.ensures

pub returns-then-count-gt-MOST : goal.returns-then-count-gt-MOST
returns-then-count-gt-MOST c =
    sda_many _ _ c.in_ok-sda.sda.bytes.now (rw c.in_ok-sda.ensures.ok_part at c.new.ensures) c.in_ok-sda.sda.good_length _
    (sym c.in_ok-shape.ensures.ok_part ∙ c.shape.ensures) _ c.id.ensures (omega arith) _ c.if-is_described.ensures c.item_count-count.ensures.0 _ (omega arith)
    c.if-count-gt-MOST.true

pub returns : goal.returns
returns c =
    sda_fine _ _ c.in_ok-sda.sda.bytes.now (rw c.in_ok-sda.ensures.ok_part at c.new.ensures) c.in_ok-sda.sda.good_length _
    (sym c.in_ok-shape.ensures.ok_part ∙ c.shape.ensures) _ c.id.ensures (omega arith) _ c.if-is_described.ensures c.item_count-count.ensures.0
    c.if-count-gt-MOST.false
