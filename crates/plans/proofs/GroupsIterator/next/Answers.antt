-- `plans::Groups::next` meets its contract.
-- Assumes nothing.
use Rattle.std.proofs.Common.{rules, ◌∙◌, sym}
use Rattle.plans.proofs.Rows.{fewer, too_short, first_left, head_left, none_left}
use Rattle.plans.proofs.GroupsIterator.next.Goals as goal

pub returns-then-self-ne0-clause-steps : goal.returns-then-self-ne0-clause-steps
returns-then-self-ne0-clause-steps c = sym c.loop-self.invariant ∙ search first_left

pub returns-then-self-ne0-clause-goes : goal.returns-then-self-ne0-clause-goes
returns-then-self-ne0-clause-goes c = let l = fewer _ _ _ (returns-then-self-ne0-clause-steps c) in record { on = λ f. search rules; keeps = search rules; rests = search rules }

pub returns-then-byte1-ne-CPT-clause-steps : goal.returns-then-byte1-ne-CPT-clause-steps
returns-then-byte1-ne-CPT-clause-steps c = let none = none_left _ _ c.in-len3-up.len_at_least (search rules) (search rules) in (sym c.loop-self.invariant ∙ none, none)

pub loop-self-preserved : goal.loop-self-preserved
loop-self-preserved c = sym (head_left _ _ c.in-len3-up.len_at_least (search rules) (search rules) _ _ c.from.ensures c.saturating_sub-self-in-len3-up.ensures) ∙ c.loop-self.invariant

pub returns-clause-steps : goal.returns-clause-steps
returns-clause-steps c = let none = too_short _ _ c.in_default.len_below in (sym c.loop-self.invariant ∙ none, none)
