use Rattle.lookups.proofs.Parts.{part_length_lem, part_fits}
use borrow.Author.Rules.{rules}
use Rattle.lookups.proofs.find_planned.Goals as goal

pub slice_bounds-find_by-end : goal.slice_bounds-find_by-end
slice_bounds-find_by-end c = search (part_length_lem)

pub find_by-requires : goal.find_by-requires
find_by-requires c = search (rules, part_fits)

pub slice_bounds-find_by-end-2 : goal.slice_bounds-find_by-end-2
slice_bounds-find_by-end-2 c = search (part_length_lem)

pub find_by-requires-2 : goal.find_by-requires-2
find_by-requires-2 c = search (rules, part_fits)
