use borrow.Author.Rules.{rules}
use Rattle.panel.proofs.Giving.{state_given}
use Rattle.panel.proofs.fdoca_state.Goals as goal

pub returns : goal.returns
returns c = search (rules, state_given)
