-- `listing::write_file` meets its contract.
-- Assumes nothing.
use Rattle.listing.proofs.File.{first_four, all_said, short_file, large_file, other_length, whole_file}
use Rattle.listing.proofs.write_file.Goals as goal

pub returns-then-file-lt8 : goal.returns-then-file-lt8
returns-then-file-lt8 c = all_said _ _ _ c.requires.0 (search short_file)

pub slice_bounds-size_in-end : goal.slice_bounds-size_in-end
slice_bounds-size_in-end c = search first_four

pub size_in-d-requires : goal.size_in-d-requires
size_in-d-requires c = search first_four

pub returns-then-d-gt-MOST_DESCRIPTOR : goal.returns-then-d-gt-MOST_DESCRIPTOR
returns-then-d-gt-MOST_DESCRIPTOR c = let e = c.then-d-gt-MOST_DESCRIPTOR.either in all_said _ _ _ c.requires.0 (search large_file)

pub returns-then-file-d : goal.returns-then-file-d
returns-then-file-d c = all_said _ _ _ c.requires.0 (search other_length)

pub returns : goal.returns
returns c = all_said _ _ _ c.requires.0 (search whole_file)
