-- What a C caller is given: the number returned, and what is written through each lent number and into the list, also on a refusal. All of
-- it is the answer to what the call's definition gives: an accepted call gives number 0 and place 0, a refusal its own and zeros.
use Rattle.std.specs.Prelude.{ℕ, ◌+◌, ◌≤◌, Bool, false, ◌≡◌, List, ℤ, pos, Float, length, if◌then◌else◌}
use Rattle.std.specs.Float.{fin}
use Rattle.fdoca.specs.declared.Value.{Value}
use Rattle.fdoca.specs.declared.Value.TheVariants.{Null, Whole, Real}
use Rattle.fdoca.specs.Basics.{Result, refuse, ok}
use Rattle.fdoca.specs.Walk.{Note}
use Rattle.fdoca.specs.Calls.{entries_after, number_given, place_given, given_check, given_list, given_state, given_whole, given_packed, given_value}

-- A part of what an accepted call gives, or of a refusal `zero`.
module _ {A B : Type 0} where
  abbrev pub given : (zero : B) → (A → B) → Result A → B
  given zero part (refuse n p) = zero
  given zero part (ok a) = part a

-- The check, which gives x.
pub record CheckGiven (x : Result ℕ) (number place items : ℕ) : Type 0 where
  pub returned : number ≡ (given_check x).number
  pub placed : place ≡ (given_check x).place
  pub counted : items ≡ (given_check x).items

-- The list call, which gives x, over a list that held `old`.
pub record ListGiven (x : Result (List ℕ)) (old : List ℕ) (number place : ℕ) (new : List ℕ) : Type 0 where
  pub returned : number ≡ (given_list x).number
  pub placed : place ≡ (given_list x).place
  pub entries : new ≡ entries_after old x

-- The null mark as a number: 1, and 0 where there is none.
abbrev pub mark : Bool → ℕ
mark null = if null then 1 else 0

-- The state of the item x, with its three lengths.
pub record StateGiven (x : Result Note) (number place null code lead value spare : ℕ) : Type 0 where
  pub returned : number ≡ (given_state x).number
  pub placed : place ≡ (given_state x).place
  pub marked : null ≡ mark (given_state x).null
  pub coded : code ≡ (given_state x).code
  pub led : lead ≡ (given_state x).lead
  pub sized : value ≡ (given_state x).value
  pub spared : spare ≡ (given_state x).spare

-- Where the value of the item x lies in the data s: within them, also where it is empty.
pub record LentGiven (x : Result Note) (s : List ℕ) (number place offset size : ℕ) : Type 0 where
  pub returned : number ≡ number_given x
  pub placed : place ≡ place_given x
  pub begins : offset ≡ given 0 (λ i. i.start + i.lead) x
  pub sized : size ≡ given 0 (λ i. i.value) x
  pub within : offset + size ≤ length s

-- The whole-number read, which gives x.
pub record WholeGiven (x : Result (Bool × ℤ)) (number place null : ℕ) (value : ℤ) : Type 0 where
  pub returned : number ≡ (given_whole x).number
  pub placed : place ≡ (given_whole x).place
  pub marked : null ≡ mark (given_whole x).null
  pub read : value ≡ (given_whole x).value

-- The read of a packed item, which gives x.
pub record PackedGiven (x : Result (Bool × ℤ × ℕ)) (number place null : ℕ) (value : ℤ) (fraction : ℕ) : Type 0 where
  pub returned : number ≡ (given_packed x).number
  pub placed : place ≡ (given_packed x).place
  pub marked : null ≡ mark (given_packed x).null
  pub read : value ≡ (given_packed x).value
  pub behind_the_point : fraction ≡ (given_packed x).fraction

-- The kind of a value: 0 null, 1 a whole number, 2 a 64-bit float; and its whole number and its float, of which what a kind has not is 0.
abbrev pub kind_of : Value → ℕ
kind_of Null = 0
kind_of (Whole z) = 1
kind_of (Real v) = 2

abbrev pub whole_in : Value → ℤ
whole_in Null = pos 0
whole_in (Whole z) = z
whole_in (Real v) = pos 0

abbrev pub real_in : Value → Float
real_in Null = fin false 0 (pos 0)
real_in (Whole z) = fin false 0 (pos 0)
real_in (Real v) = v

-- The value call, which gives x.
pub record ValueGiven (x : Result Value) (number place kind : ℕ) (whole : ℤ) (real : Float) : Type 0 where
  pub returned : number ≡ (given_value x).number
  pub placed : place ≡ (given_value x).place
  pub of_kind : kind ≡ kind_of (given_value x).value
  pub of_whole : whole ≡ whole_in (given_value x).value
  pub of_real : real ≡ real_in (given_value x).value
