use Rattle.listing.proofs.Putting.{number_room, field_room, field_put, field_long}
use Rattle.listing.proofs.Text.field.Goals as goal

pub number-requires : goal.number-requires
number-requires c = search number_room

pub byte-requires : goal.byte-requires
byte-requires c = search field_room

pub returns : goal.returns
returns c = (search field_put, search field_long)
