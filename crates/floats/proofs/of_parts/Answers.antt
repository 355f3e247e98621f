use borrow.Author.Rules.{rules}
use Rattle.floats.proofs.Ways.{plus_no_nan, plus_pattern, minus_no_nan, minus_pattern}
use Rattle.floats.proofs.of_parts.Goals as goal

pub float_from_bits-result : goal.float_from_bits-result
float_from_bits-result c = search (rules, minus_no_nan)

pub float_from_bits-result-else-negative : goal.float_from_bits-result-else-negative
float_from_bits-result-else-negative c = search (rules, plus_no_nan)

pub returns-then-negative : goal.returns-then-negative
returns-then-negative c = search (rules, minus_pattern)

pub returns-else-negative : goal.returns-else-negative
returns-else-negative c = search (rules, plus_pattern)
