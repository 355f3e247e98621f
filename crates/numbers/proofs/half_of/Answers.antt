use Rattle.numbers.proofs.Sign.{half_room, half_times}
use borrow.Author.Rules.{rules}
use Rattle.numbers.proofs.half_of.Goals as goal

pub pow-requires : goal.pow-requires
pow-requires c = search (rules, half_room)

pub overflow_mul-result : goal.overflow_mul-result
overflow_mul-result c = search (rules, half_times)
