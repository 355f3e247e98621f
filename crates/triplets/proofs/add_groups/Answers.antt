use Rattle.std.proofs.Common.{◌≡◌, ◌∙◌, Err, ◌&&◌, drop, arith}
use Rattle.std.proofs.lemmas.Result.{err_from_is_err_and}
use Rattle.fdoca.specs.Basics.{is_empty}
use Rattle.fdoca.specs.Triplet.{threes}
use Rattle.triplets.proofs.Groups.{adding_start, adding_end, is_last, adding_stop, adding_more}
use Rattle.triplets.proofs.add_groups.Given.{Over}
use Rattle.triplets.proofs.add_groups.Goals as goal
use Rattle.triplets.proofs.add_groups.Goals.{then-last, else-last, After-add_group}

pub loop-groups-init : goal.loop-groups-init
loop-groups-init g c = adding_start _ _ _ _ _ c.requires

-- whether the group ends the descriptor
ends : (g : Over) (c : After-add_group g) → c.if-last.ends ≡ (c.args.last && is_empty (threes (drop 3 c.loop-groups.groups.now)))
ends g c =
    elim c.if-last.branch [
      | then-last w ↦ rw w.if-last.true (w.ends-is ∙ w.is_empty-ends.ensures ∙ is_last _ _ _ _ _ _ _ c.loop-groups.invariant (omega arith))
      | else-last w ↦ rw w.if-last.false (w.ends-is ∙ w.if-last.false)
    ]

pub returns-in_err-n : goal.returns-in_err-n
returns-in_err-n g c =
    let p = err_from_is_err_and c.from_residual.result c.from_residual.ensures.1 in
    let refused : c.add_group.result ≡ Err p.0 = rw p.2 c.in_err-n.was in
    rw p.1 (adding_stop _ _ _ _ _ _ _ c.loop-groups.invariant (omega arith) _ _ (ends g (goal.at.returns-in_err-n g c).After-add_group) c.add_group.ensures _ refused)

pub loop-groups-preserved : goal.loop-groups-preserved
loop-groups-preserved g c =
    adding_more _ _ _ _ _ _ _ c.loop-groups.invariant (omega arith) _ _ (ends g (goal.at.loop-groups-preserved g c).After-add_group) c.add_group.ensures _ c.in_ok-n.was

pub returns : goal.returns
returns g c = adding_end _ _ _ _ _ _ _ c.loop-groups.invariant c.in_default.len_below
