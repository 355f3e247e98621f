-- What the calls give (document 01, "What the reader carries", "Numbers a caller can meet", "The item list and the dump program"; document 02, Q-1, Q-5,
-- Q-6 and Q-7).
use Rattle.std.specs.Prelude.{ℕ, ◌+◌, ◌*◌, ◌^◌, Bool, true, false, ◌&&◌, ◌||◌, not, List, [], ◌∷◌, ◌++◌, map, reverse, ltb, eqb, Float, ℤ, pos, ◌-ℤ◌, length, take, drop, if◌then◌else◌}
use Rattle.std.specs.Prelude as code
use Rattle.std.proofs.Math.Option.{Option, none, some}
use Rattle.std.proofs.Math.ListN.{get_elem?}
use Rattle.fdoca.specs.declared.Refusal.{Refusal}
use Rattle.fdoca.specs.declared.State.{State}
use Rattle.fdoca.specs.declared.Decimal.{Decimal}
use Rattle.fdoca.specs.declared.Value.{Value}
use Rattle.fdoca.specs.declared.Value.TheVariants.{Null, Whole, Real}
use Rattle.fdoca.specs.Basics.{lookup, is_some, big, Result, refuse, ok, ◌>>=◌, ◌>>◌, reject, the}
use Rattle.fdoca.specs.Returned.{returned}
use Rattle.fdoca.specs.FieldType.{FieldType, fixed_bytes, variable_bytes, terminated_bytes, short_bytes, integer, reversed_integer, packed_decimal, hex_float, reversed_float, binary_float, Size, bytes, digits}
use Rattle.fdoca.specs.Walk.{Note, walk_by}
use Rattle.fdoca.specs.Check.{check, max_descriptor}
use Rattle.fdoca.specs.Unfolding.{unfolded, repeated}
use Rattle.fdoca.specs.Packed.{packed_number}
use Rattle.fdoca.specs.Item.{Field, field_length}
use Rattle.fdoca.specs.Float.{Format, short_hexadecimal, long_hexadecimal, short_binary, long_binary, float_of}

abbrev pub max_data : ℕ
max_data = 32768

-- Descriptor or data over its limit.
abbrev pub oversize : List ℕ → List ℕ → Bool
oversize d s = ltb max_descriptor (length d) || ltb max_data (length s)

-- The item list of n items in a block of `size` bytes: two numbers, two arrays, and the entries beyond with their old contents.
abbrev pub item_list : (n size : ℕ) → List Note → List ℕ → List ℕ
item_list n size ns old = n ∷ size ∷ map (λ i. i.start) ns ++ map (λ i. i.field.id) ns ++ drop (2 + 2 * n) old

-- A list of so many entries is small: under 2 + 2n for n items.
abbrev pub small : (entries n : ℕ) → Bool
small entries n = ltb entries (2 + 2 * n)

-- The list call: the caller's list afterwards, or the refusal. 12 comes before the items; with rows to the end n is theirs, and 12 comes after them.
unfoldable pub list : List ℕ → List ℕ → List ℕ → Result (List ℕ)
list d s old = do
  reject (oversize d s) 1 0
  n ← check d
  reject (not (is_some (repeated d)) && small (length old) n) 12 0
  ns ← walk_by (unfolded d) (repeated d) s
  reject (small (length old) (length ns)) 12 0
  ok (item_list (length ns) (length s) ns old)

-- The note of item k, numbered from 0: what the state call, lending and the reads of numbers go by.
unfoldable pub item_at : List ℕ → List ℕ → (k : ℕ) → Result Note
item_at d s k = do
  reject (oversize d s) 1 0
  n ← check d
  ns ← walk_by (unfolded d) (repeated d) s
  the (get_elem? ns k) 17 0

-- The bytes of an item's value: the part of the data that holds it.
abbrev pub value_of : List ℕ → Note → List ℕ
value_of s i = take i.value (drop (i.start + i.lead) s)

-- The bytes of a number, most significant first: as they stand, or back to front where they are reversed.
unfoldable pub ordered : List ℕ → (reversed : Bool) → List ℕ
ordered bs reversed = if reversed then reverse bs else bs

-- Two's complement at any width, most significant byte first: from half on, a number stands for itself less the number of all.
unfoldable pub signed : List ℕ → ℤ
signed bs = if ltb (2 * big bs) (256 ^ length bs) then pos (big bs) else pos (big bs) -ℤ pos (256 ^ length bs)

-- The whole number that a type's value bytes stand for: X'23' has the most significant byte first, X'24' reversed; no other type has one.
unfoldable pub whole_of : FieldType → List ℕ → Option ℤ
whole_of integer bs = some (signed bs)
whole_of reversed_integer bs = some (signed (reverse bs))
whole_of fixed_bytes bs = none
whole_of variable_bytes bs = none
whole_of terminated_bytes bs = none
whole_of short_bytes bs = none
whole_of packed_decimal bs = none
whole_of hex_float bs = none
whole_of reversed_float bs = none
whole_of binary_float bs = none

-- The whole-number read, of a null too: 18 goes by the type.
unfoldable pub whole_number : List ℕ → List ℕ → (k : ℕ) → Result (Bool × ℤ)
whole_number d s k = do
  i ← item_at d s k
  z ← the (whole_of i.field.type (value_of s i)) 18 i.start
  ok (i.is_null, if i.is_null then pos 0 else z)

-- The digits and the fraction digits of a field's size; packed decimals alone have them.
abbrev pub digits_of : Size → Option (ℕ × ℕ)
digits_of (bytes F) = none
digits_of (digits p fraction) = some (p, fraction)

-- The whole number of a packed item (Q-1), with its field's fraction digits: 18 goes by the type, of a null too; then 20, Bad digit, which a
-- null has not.
unfoldable pub packed : List ℕ → List ℕ → (k : ℕ) → Result (Bool × ℤ × ℕ)
packed d s k = do
  i ← item_at d s k
  p ← the (digits_of i.field.size) 18 i.start
  z ← the (if i.is_null then some (pos 0) else packed_number p.0 (value_of s i)) 20 i.start
  ok (i.is_null, z, p.1)

-- How the value call (Q-7) reads the bytes of a value, which may be reversed: as a whole number, or as a float of a format.
pub data Reading : Type 0 where
  whole : (reversed : Bool) → Reading
  float : (reversed : Bool) → Format → Reading

-- By a field's type, its length F and its bias indicator. Byte strings and packed decimals are not read, nor are X'40' of 16 bytes and bias indicator 1.
unfoldable pub reading_by : FieldType → (F bias : ℕ) → Option Reading
reading_by integer F bias = some (whole false)
reading_by reversed_integer F bias = some (whole true)
reading_by hex_float F bias = lookup F ((4, float false short_hexadecimal) ∷ (8, float false long_hexadecimal) ∷ [])
reading_by reversed_float F bias = if eqb bias 0 then lookup F ((4, float true short_binary) ∷ (8, float true long_binary) ∷ []) else none
reading_by binary_float F bias = if eqb bias 0 then lookup F ((4, float false short_binary) ∷ (8, float false long_binary) ∷ []) else none
reading_by fixed_bytes F bias = none
reading_by variable_bytes F bias = none
reading_by terminated_bytes F bias = none
reading_by short_bytes F bias = none
reading_by packed_decimal F bias = none

abbrev pub reading_of : Field → Option Reading
reading_of f = reading_by f.type (field_length f) f.bias

abbrev pub real : Option Float → Option Value
real none = none
real (some v) = some (Real v)

-- The value of bytes; none where there is no exact float.
unfoldable pub read_by : Reading → List ℕ → Option Value
read_by (whole reversed) bs = some (Whole (signed (ordered bs reversed)))
read_by (float reversed f) bs = real (float_of f (big (ordered bs reversed)))

-- The value of an item: 18 goes by the field, of a null too; then 23, No exact float, which a null has not.
unfoldable pub value : List ℕ → List ℕ → (k : ℕ) → Result Value
value d s k = do
  i ← item_at d s k
  r ← the (reading_of i.field) 18 i.start
  the (if i.is_null then some Null else read_by r (value_of s i)) 23 i.start

-- The answers: what an accepted call returns, or its refusal (Returned). The list call returns nothing but writes its list: on a refusal it is as before.
abbrev pub checked : Result ℕ → code.Result ℕ Refusal
checked x = returned x

abbrev pub listed : Result (List ℕ) → code.Result (Unit {0}) Refusal
listed x = returned (x >>= λ l. ok tt)

abbrev pub entries_after : List ℕ → Result (List ℕ) → List ℕ
entries_after old (refuse n p) = old
entries_after old (ok l) = l

-- The state of an item: the three lengths that measuring it states (Q-6).
abbrev pub state_by : Note → State
state_by i = record { null = i.is_null; code = i.field.code; lead = i.lead; value = i.value; spare = i.spare }

abbrev pub state_of : Result Note → code.Result State Refusal
state_of x = returned (x >>= λ i. ok (state_by i))

-- The lent part's bytes: none on a null or a refusal. Where an empty part lies 01 leaves free, and the contract of the call says it.
abbrev pub lent : List ℕ → Result Note → List ℕ
lent s (refuse n p) = []
lent s (ok i) = value_of s i

-- The number that a null has not.
abbrev pub unless_null : Bool → ℤ → code.Option ℤ
unless_null null z = if null then code.None else code.Some z

abbrev pub whole_answer : Result (Bool × ℤ) → code.Result (code.Option ℤ) Refusal
whole_answer x = returned (x >>= λ v. ok (unless_null v.0 v.1))

abbrev pub decimal_answer : Result (Bool × ℤ × ℕ) → code.Result Decimal Refusal
decimal_answer x = returned (x >>= λ v. ok (record { value = unless_null v.0 v.1; fraction = v.2 }))

abbrev pub value_answer : Result Value → code.Result Value Refusal
value_answer x = returned x

-- What programs in C are given: of an accepted call number 0 and place 0, of a refusal its own, zeros and no null mark.
module _ {A : Type 0} where
  abbrev pub number_given : Result A → ℕ
  number_given (refuse n p) = n
  number_given (ok a) = 0

  abbrev pub place_given : Result A → ℕ
  place_given (refuse n p) = p
  place_given (ok a) = 0

pub record GivenCheck : Type 0 where
  pub number : ℕ
  pub place : ℕ
  pub items : ℕ

abbrev pub given_check : Result ℕ → GivenCheck
given_check (refuse n p) = record { number = n; place = p; items = 0 }
given_check (ok n) = record { number = 0; place = 0; items = n }

pub record GivenList : Type 0 where
  pub number : ℕ
  pub place : ℕ

abbrev pub given_list : Result (List ℕ) → GivenList
given_list (refuse n p) = record { number = n; place = p }
given_list (ok l) = record { number = 0; place = 0 }

-- A refusal gives three zeros for the lengths (Q-6).
pub record GivenState : Type 0 where
  pub number : ℕ
  pub place : ℕ
  pub null : Bool
  pub code : ℕ
  pub lead : ℕ
  pub value : ℕ
  pub spare : ℕ

abbrev pub given_state : Result Note → GivenState
given_state (refuse n p) = record { number = n; place = p; null = false; code = 0; lead = 0; value = 0; spare = 0 }
given_state (ok i) = record { number = 0; place = 0; null = i.is_null; code = i.field.code; lead = i.lead; value = i.value; spare = i.spare }

pub record GivenWhole : Type 0 where
  pub number : ℕ
  pub place : ℕ
  pub null : Bool
  pub value : ℤ

abbrev pub given_whole : Result (Bool × ℤ) → GivenWhole
given_whole (refuse n p) = record { number = n; place = p; null = false; value = pos 0 }
given_whole (ok v) = record { number = 0; place = 0; null = v.0; value = v.1 }

pub record GivenPacked : Type 0 where
  pub number : ℕ
  pub place : ℕ
  pub null : Bool
  pub value : ℤ
  pub fraction : ℕ

abbrev pub given_packed : Result (Bool × ℤ × ℕ) → GivenPacked
given_packed (refuse n p) = record { number = n; place = p; null = false; value = pos 0; fraction = 0 }
given_packed (ok v) = record { number = 0; place = 0; null = v.0; value = v.1; fraction = v.2 }

-- A refusal of the value call gives the whole number 0.
pub record GivenValue : Type 0 where
  pub number : ℕ
  pub place : ℕ
  pub value : Value

abbrev pub given_value : Result Value → GivenValue
given_value (refuse n p) = record { number = n; place = p; value = Whole (pos 0) }
given_value (ok v) = record { number = 0; place = 0; value = v }
