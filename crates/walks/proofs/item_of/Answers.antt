-- `walks::item_of` meets its contract.
-- Assumes nothing.
use Rattle.std.proofs.Common.{rules}
use Rattle.walks.proofs.Seeking.{mark_inside, mark_measured, mark_found}
use Rattle.walks.proofs.item_of.Goals as goal

pub item_at-requires : goal.item_at-requires
item_at-requires c = search (rules, mark_inside)

pub unwrap-item-requires : goal.unwrap-item-requires
unwrap-item-requires c = mark_measured _ _ _ c.item_at.ensures.measured c.requires.0

pub returns : goal.returns
returns c = mark_found _ _ _ c.item_at.ensures.measured _ c.unwrap-item.ensures
