use mathlib.Core.Path.{◌∙◌}
use native.Mathlib.Omega.{arith}
use Rattle.sdas.proofs.Sda.{at_least_12}
use Rattle.sdas.proofs.Entries.{own_small, size_below, entry_way}
use Rattle.sdas.proofs.DataArray.entry.Goals as goal

pub entry_of-requires : goal.entry_of-requires
entry_of-requires c = (
  own_small c.args.self.now.bytes.now (at_least_12 c.args.self.now.bytes.now c.args.self.now.good_length) c.requires.good _ _ _ _ c.from.ensures c.from-2.ensures
      (omega arith) (omega arith),
  size_below c.args.self.now.bytes.now c.args.shape c.requires.good c.requires.shape,
)

pub returns : goal.returns
returns c =
    entry_way c.args.self.now.bytes.now c.args.shape c.requires.good c.requires.shape _ _ _ _ _ _ (at_least_12 c.args.self.now.bytes.now c.args.self.now.good_length)
    c.from.ensures c.from-2.ensures c.from-4.ensures (omega arith) (c.from-3.ensures ∙ c.id.ensures) (omega arith) c.number.ensures c.entry_of.ensures
