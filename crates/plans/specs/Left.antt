-- What an iterator over groups has left.
use Rattle.std.specs.Prelude.{List}
use Rattle.fdoca.specs.Triplet.{Group}
use Rattle.plans.specs.declared.Group as read
use Rattle.plans.specs.declared.Groups.{Groups}
use Rattle.plans.specs.Tied.{groups_in}

-- A group's three bytes as a group.
abbrev pub group_of : read.Group → Group
group_of g = record { ref = g.id; byte1 = g.byte1; byte2 = g.byte2 }

abbrev pub groups_left : Groups → List Group
groups_left g = groups_in g.own g.bytes.now
