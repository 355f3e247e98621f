use mathlib.Core.Path.{◌≡◌, ◌∙◌}
use mathlib.Core.Bool.{false}
use lib.Dec.{leb}
use borrow.Author.Tests.{lt-leb}
use Rattle.field_types.proofs.Allowed.{bias_over, mode_over, size_told}
use Rattle.field_types.proofs.Rule.allows.Goals as goal
use Rattle.field_types.proofs.Rule.allows.Goals.{then-bias-from, else-bias-from}

pub returns-then-mode-from : goal.returns-then-mode-from
returns-then-mode-from c =
    elim c.if-bias-from.branch [
      | then-bias-from w ↦ search (size_told)
      | else-bias-from w ↦ let over : leb c.args.bias c.from.result ≡ false = lt-leb _ _ w.if-bias-from.false in cc
    ]

pub returns-else-mode-from : goal.returns-else-mode-from
returns-else-mode-from c =
    elim c.if-bias-from.branch [ then-bias-from w ↦ search (mode_over) | else-bias-from w ↦ c.if-mode-from.false ∙ search (bias_over) ]
