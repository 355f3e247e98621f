use Rattle.std.proofs.Common.{arith}
use Rattle.triplets.proofs.Sums.{group_missing, of_array, of_row}
use Rattle.triplets.proofs.add_group.Goals as goal

pub returns-then-not-is_described : goal.returns-then-not-is_described
returns-then-not-is_described g c = group_missing _ _ _ _ _ (omega arith) c.if-not-is_described.ensures

pub returns-then-this-eq-GDA : goal.returns-then-this-eq-GDA
returns-then-this-eq-GDA g c = of_array _ _ _ _ _ (omega arith) _ c.if-not-is_described.ensures c.if-this-eq-GDA.true (c.add_column.ensures _)

pub returns : goal.returns
returns g c = of_row _ _ _ _ _ (omega arith) _ c.if-not-is_described.ensures c.if-this-eq-GDA.false c.add_elements.ensures
