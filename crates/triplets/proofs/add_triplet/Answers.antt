use Rattle.std.proofs.Common.{◌≡◌, ◌∙◌, sym, arith}
use Rattle.plans.specs.Tied.{kind_of}
use Rattle.plans.proofs.Referred.{kind_row}
use Rattle.triplets.proofs.add_triplet.Goals as goal

pub returns : goal.returns
returns c =
    let same : kind_of c.args.head ≡ kind_of 0x71 = kind_row _ c.if-head-eq-GDA.false ∙ sym (kind_row 0x71 (λ q. omega arith)) in
    rw same c.add_groups-2.ensures
