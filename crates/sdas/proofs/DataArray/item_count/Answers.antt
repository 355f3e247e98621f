use Rattle.sdas.proofs.Sda.{count_is, count_below}
use Rattle.sdas.proofs.DataArray.item_count.Goals as goal

pub returns : goal.returns
returns c = search (count_is, count_below, c.args.self.now.good_length)
