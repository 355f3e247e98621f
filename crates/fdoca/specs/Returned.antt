-- The reasons as the table of numbers has them (document 01, "Numbers a caller can meet"; document 02), and what the code gives for the definitions'
-- answers.
use Rattle.std.specs.Prelude.{ℕ, List, [], ◌∷◌, Option, Some, None, Result, Ok, Err}
use Rattle.std.proofs.Math.Option.{none, some}
use Rattle.std.proofs.Math.Option as defined_option
use Rattle.fdoca.specs.declared.Reason.{Reason}
use Rattle.fdoca.specs.declared.Reason.TheVariants.{Oversize, TornTriplet, UnknownConstruct, OutOfSequence, BadLength, BadParameter, NameTaken, MissingReference, NotCarried, TooManyItems, NothingDescribed, SmallList, ShortData, BadCount, NoEnd, Surplus, NoSuchItem, WrongKind, BadFile, BadDigit, ColumnMisfit, Endless, NoExactFloat, BadIndicator}
use Rattle.fdoca.specs.declared.Refusal.{Refusal}
use Rattle.fdoca.specs.Basics.{lookup, refuse, ok}
use Rattle.fdoca.specs.Basics as defined

-- The number of a reason.
abbrev pub number_of : Reason → ℕ
number_of Oversize = 1
number_of TornTriplet = 2
number_of UnknownConstruct = 3
number_of OutOfSequence = 4
number_of BadLength = 5
number_of BadParameter = 6
number_of NameTaken = 7
number_of MissingReference = 8
number_of NotCarried = 9
number_of TooManyItems = 10
number_of NothingDescribed = 11
number_of SmallList = 12
number_of ShortData = 13
number_of BadCount = 14
number_of NoEnd = 15
number_of Surplus = 16
number_of NoSuchItem = 17
number_of WrongKind = 18
number_of BadFile = 19
number_of BadDigit = 20
number_of ColumnMisfit = 21
number_of Endless = 22
number_of NoExactFloat = 23
number_of BadIndicator = 24

-- The reason that a number stands for.
abbrev pub reasons : List (ℕ × Reason)
reasons =
    (1, Oversize) ∷
    (2, TornTriplet) ∷
    (3, UnknownConstruct) ∷
    (4, OutOfSequence) ∷
    (5, BadLength) ∷
    (6, BadParameter) ∷
    (7, NameTaken) ∷
    (8, MissingReference) ∷
    (9, NotCarried) ∷
    (10, TooManyItems) ∷
    (11, NothingDescribed) ∷
    (12, SmallList) ∷
    (13, ShortData) ∷
    (14, BadCount) ∷
    (15, NoEnd) ∷
    (16, Surplus) ∷
    (17, NoSuchItem) ∷
    (18, WrongKind) ∷
    (19, BadFile) ∷
    (20, BadDigit) ∷
    (21, ColumnMisfit) ∷
    (22, Endless) ∷
    (23, NoExactFloat) ∷
    (24, BadIndicator) ∷
    []

abbrev pub or_last : defined_option.Option Reason → Reason
or_last none = BadIndicator
or_last (some r) = r

-- The table's reason for a number; no other number is given.
unfoldable pub reason_of : ℕ → Reason
reason_of n = or_last (lookup n reasons)

module _ {A : Type 0} where
  -- What a call gives for a definition's answer.
  abbrev pub returned : defined.Result A → Result A Refusal
  returned (refuse n p) = Err (record { reason = reason_of n; place = p })
  returned (ok a) = Ok a

  -- The definition's answer that an outcome of code stands for, where the refusal is at the place p.
  abbrev pub outcome : (p : ℕ) → Result A Reason → defined.Result A
  outcome p (Err r) = refuse (number_of r) p
  outcome p (Ok a) = ok a

  -- The definition's answer that a call's result stands for.
  abbrev pub answer : Result A Refusal → defined.Result A
  answer (Err r) = refuse (number_of r.reason) r.place
  answer (Ok a) = ok a

  -- What a function gives for a value of the definitions that may be none.
  abbrev pub option_of : defined_option.Option A → Option A
  option_of none = None
  option_of (some a) = Some a
