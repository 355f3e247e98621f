use borrow.Author.Rules.{rules}
use Rattle.values.proofs.Ways.{read_whole, read_real, read_none}
use Rattle.values.proofs.Reading.read.Goals as goal

pub returns-in-Whole : goal.returns-in-Whole
returns-in-Whole c = search (rules, read_whole)

pub returns-in_ok-float-in-Float : goal.returns-in_ok-float-in-Float
returns-in_ok-float-in-Float c = search (rules, read_real)

pub returns-in_err-float-in-Float : goal.returns-in_err-float-in-Float
returns-in_err-float-in-Float c = search (rules, read_none)
