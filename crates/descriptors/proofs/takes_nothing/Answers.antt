use Rattle.descriptors.proofs.Examining.{pass_there, pass_known}
use borrow.Author.Rules.{rules}
use Rattle.descriptors.proofs.takes_nothing.Goals as goal

pub overflow_sub-desc : goal.overflow_sub-desc
overflow_sub-desc c = search (pass_there)

pub endless-requires : goal.endless-requires
endless-requires c = search (rules, pass_known)
