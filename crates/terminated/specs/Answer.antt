-- The definition's answer that what was measured stands for. No two results have the same, since each reason has a number of its own.
use Rattle.std.specs.Prelude.{Result, Ok, Err}
use Rattle.fdoca.specs.declared.Reason.{Reason}
use Rattle.fdoca.specs.Item.{refused, item}
use Rattle.fdoca.specs.Item as defined
use Rattle.fdoca.specs.Returned.{number_of}
use Rattle.terminated.specs.declared.Measured.{Measured}

abbrev pub measured : Result Measured Reason → defined.Measured
measured (Err r) = refused (number_of r)
measured (Ok m) = item m.null m.lead m.value m.spare
