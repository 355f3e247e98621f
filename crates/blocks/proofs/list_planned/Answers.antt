use Rattle.lookups.proofs.Parts.{part_length_lem, part_fits}
use borrow.Author.Rules.{rules}
use Rattle.blocks.proofs.list_planned.Goals as goal

pub slice_bounds-list_by-end : goal.slice_bounds-list_by-end
slice_bounds-list_by-end c = search (part_length_lem)

pub list_by-requires : goal.list_by-requires
list_by-requires c = search (rules, part_fits)

pub slice_bounds-list_by-end-2 : goal.slice_bounds-list_by-end-2
slice_bounds-list_by-end-2 c = search (part_length_lem)

pub list_by-requires-2 : goal.list_by-requires-2
list_by-requires-2 c = search (rules, part_fits)
