use borrow.Author.Rules.{rules}
use Rattle.floats.proofs.Ways.{too_long_lem, short_enough}
use Rattle.floats.proofs.hexadecimal.Goals as goal

pub returns-then-narrow-ge-TOO_LONG : goal.returns-then-narrow-ge-TOO_LONG
returns-then-narrow-ge-TOO_LONG c = search (rules, too_long_lem)

pub returns : goal.returns
returns c = search (rules, short_enough)
