use borrow.Author.Rules.{rules}
use Rattle.listing.proofs.Putting.{digit_room, tens_room, last_room, digit_put, digits_put}
use Rattle.listing.proofs.Text.+number.Goals as goal

pub byte-requires : goal.byte-requires
byte-requires t c = search digit_room

pub returns-then-n-lt10 : goal.returns-then-n-lt10
returns-then-n-lt10 t c = search digit_put

pub number-requires : goal.number-requires
number-requires t c = search (rules, tens_room)

pub byte-requires-2 : goal.byte-requires-2
byte-requires-2 t c = search last_room

pub returns : goal.returns
returns t c = search digits_put
