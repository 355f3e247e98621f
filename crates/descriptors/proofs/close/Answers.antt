use Rattle.descriptors.proofs.Closing.{close_row_lem, row_long, row_before, held_small}
use borrow.Author.Rules.{rules}
use Rattle.descriptors.proofs.close.Goals as goal

pub row_place-start-requires : goal.row_place-start-requires
row_place-start-requires c = search (rules, row_long, row_before, held_small)

pub returns : goal.returns
returns c = search (rules, close_row_lem)
