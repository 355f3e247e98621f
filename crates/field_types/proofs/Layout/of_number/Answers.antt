use mathlib.Core.Path.{sym, ap}
use Rattle.fdoca.proofs.Tests.{tests}
use Rattle.field_types.specs.Layouts.{numbered}
use Rattle.field_types.proofs.Layout.of_number.Goals as goal

pub returns-in-0 : goal.returns-in-0
unfolding numbered
returns-in-0 c = sym (ap numbered c.in-0.is)

pub returns-in-1 : goal.returns-in-1
unfolding numbered
returns-in-1 c = sym (ap numbered c.in-1.is)

pub returns-in-2 : goal.returns-in-2
unfolding numbered
returns-in-2 c = sym (ap numbered c.in-2.is)

pub returns-in_default : goal.returns-in_default
unfolding numbered
returns-in_default c = search tests
