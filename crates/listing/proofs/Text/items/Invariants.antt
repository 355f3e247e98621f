use Rattle.listing.proofs.Going.{Going}
use Rattle.listing.proofs.Text.items.Given as goal

abbrev pub invariant-loop-k : goal.invariant-loop-k
invariant-loop-k l = Going l.plan l.data l.initial.self l.self l.k
