use borrow.Author.Rules.{rules}
use Rattle.floats.proofs.Ways.{short_two, long_two, short_sixteen, long_sixteen}
use Rattle.floats.proofs.Format.float_of.Goals as goal

pub returns-in-ShortHexadecimal : goal.returns-in-ShortHexadecimal
returns-in-ShortHexadecimal c = search (rules, short_sixteen)

pub returns-in-LongHexadecimal : goal.returns-in-LongHexadecimal
returns-in-LongHexadecimal c = search (rules, long_sixteen)

pub returns-in-ShortBinary : goal.returns-in-ShortBinary
returns-in-ShortBinary c = search (rules, short_two)

pub returns-in-LongBinary : goal.returns-in-LongBinary
returns-in-LongBinary c = search (rules, long_two)
