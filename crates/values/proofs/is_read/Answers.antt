use mathlib.Core.Path.{◌∙◌}
use Rattle.values.proofs.Plain.{of_a_type}
use Rattle.values.proofs.is_read.Goals as goal

pub returns-in-Some : goal.returns-in-Some
returns-in-Some c = c.is_some.ensures ∙ of_a_type _ _ _ c.if-plain-ge128.false _ c.of_code.ensures _ c.in-Some.is _ c.of_type.ensures
