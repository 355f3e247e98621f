-- A call gets the tens of the number.
use Rattle.listing.proofs.Text.+number.Given as goal

abbrev pub decreases-number : goal.decreases-number
decreases-number l = l.n
