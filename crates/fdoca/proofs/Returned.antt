-- A reason is that of its number, and a result what its answer gives; what a returned error or value tells.
use Rattle.std.proofs.Common.{◌≡◌, refl, ℕ, arith, Result, Ok, Err}
use Rattle.fdoca.specs.declared.Reason.{Reason}
use Rattle.fdoca.specs.declared.Reason.TheVariants.{Oversize, TornTriplet, UnknownConstruct, OutOfSequence, BadLength, BadParameter, NameTaken, MissingReference, NotCarried, TooManyItems, NothingDescribed, SmallList, ShortData, BadCount, NoEnd, Surplus, NoSuchItem, WrongKind, BadFile, BadDigit, ColumnMisfit, Endless, NoExactFloat, BadIndicator}
use Rattle.fdoca.specs.declared.Refusal.{Refusal}
use Rattle.fdoca.specs.Basics as defined
use Rattle.fdoca.specs.Basics.{refuse, ok, ◌>>=◌}
use Rattle.fdoca.specs.Returned.{number_of, reason_of, returned, answer}

pub reason_of-number_of : (r : Reason) → reason_of (number_of r) ≡ r
unfolding reason_of
reason_of-number_of Oversize = refl
reason_of-number_of TornTriplet = refl
reason_of-number_of UnknownConstruct = refl
reason_of-number_of OutOfSequence = refl
reason_of-number_of BadLength = refl
reason_of-number_of BadParameter = refl
reason_of-number_of NameTaken = refl
reason_of-number_of MissingReference = refl
reason_of-number_of NotCarried = refl
reason_of-number_of TooManyItems = refl
reason_of-number_of NothingDescribed = refl
reason_of-number_of SmallList = refl
reason_of-number_of ShortData = refl
reason_of-number_of BadCount = refl
reason_of-number_of NoEnd = refl
reason_of-number_of Surplus = refl
reason_of-number_of NoSuchItem = refl
reason_of-number_of WrongKind = refl
reason_of-number_of BadFile = refl
reason_of-number_of BadDigit = refl
reason_of-number_of ColumnMisfit = refl
reason_of-number_of Endless = refl
reason_of-number_of NoExactFloat = refl
reason_of-number_of BadIndicator = refl

pub returned-answer : {A : Type 0} (r : Result A Refusal) → returned (answer r) ≡ r
returned-answer (Ok a) = refl
returned-answer (Err r) = rw (reason_of-number_of r.reason) refl

module _ {A : Type 0} where
  -- an error is passed on, whatever would have followed
  pub passed_on : {B : Type 0} {e : Refusal} (x : defined.Result A) (f : A → defined.Result B) → Err e ≡ returned x → Err e ≡ returned (x >>= f)
  passed_on (refuse n p) f h = cc
  passed_on (ok a) f h = absurd (let z : ◌≡◌ {A = ℕ} 0 1 = cc in let o : ⊥ = omega arith in o)

  -- it is one where a value would be told by another
  pub refused_too : {B : Type 0} {e : Refusal} (x : defined.Result A) (g : A → B) → Err e ≡ returned (x >>= (λ a. ok (g a))) → Err e ≡ returned x
  refused_too (refuse n p) g h = cc
  refused_too (ok a) g h = absurd (let z : ◌≡◌ {A = ℕ} 0 1 = cc in let o : ⊥ = omega arith in o)

  -- a value is the definition's
  pub value_is : {a : A} (x : defined.Result A) → Ok a ≡ returned x → x ≡ ok a
  value_is {a = a} (refuse n p) h = absurd (let z : ◌≡◌ {A = ℕ} 0 1 = cc in let o : ⊥ = omega arith in o)
  value_is {a = a} (ok b) h = let q : b ≡ a = cc in rw q
