use Rattle.sdas.proofs.Entries.{lower_some}
use Rattle.sdas.proofs.DataArray.lower.Goals as goal

pub returns-else-self-eq12 : goal.returns-else-self-eq12
returns-else-self-eq12 c = lower_some _ c.args.self.now.good_length _ c.if-self-eq12.false c.lower_product.ensures.0
