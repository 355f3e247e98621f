use mathlib.Core.Path.{◌∙◌, sym}
use Rattle.field_types.proofs.Allowed.{shape_not}
use Rattle.sdas.proofs.Sda.{bad_id, bad_extents, good_rest}
use Rattle.sdas.proofs.DataArray.shape.Goals as goal
use Rattle.sdas.proofs.DataArray.shape.Goals.{then-id-eq0-via-then-id-eq0, then-id-eq0-via-else-id-eq0+then-item_count-eq0}

pub returns-then-id-eq0 : goal.returns-then-id-eq0
returns-then-id-eq0 c =
    elim c.then-id-eq0.branch [
      | then-id-eq0-via-then-id-eq0 w ↦ shape_not _ _ _ (bad_id c.args.self.now.bytes.now (sym c.id.ensures ∙ w.if-id-eq0.true))
      | then-id-eq0-via-else-id-eq0+then-item_count-eq0 w ↦
          shape_not _ _ _ (bad_extents c.args.self.now.bytes.now _ w.item_count.ensures.0 w.if-item_count-eq0.true)
    ]

pub returns : goal.returns
returns c =
    good_rest c.args.self.now.bytes.now _ _ c.args.self.now.good_length (λ q. c.if-id-eq0.false (c.id.ensures ∙ q)) c.item_count.ensures.0
    c.if-item_count-eq0.false c.shape_of.ensures
