-- The field types (document 01, "Field types"; document 02, Q-1, Q-2 and Q-4; 000, section 4.3.3) and the rule of each.
use Rattle.std.specs.Prelude.{ℕ, ◌+◌, ◌-◌, ◌*◌, ◌/◌, Bool, true, false, ◌&&◌, List, [], ◌∷◌, leb, ltb, if◌then◌else◌}
use Rattle.std.proofs.Math.Option.{Option, none, some}
use Rattle.fdoca.specs.Basics.{elem, lookup}

-- The types that are carried.
pub data FieldType : Type 0 where
  fixed_bytes variable_bytes terminated_bytes short_bytes : FieldType
  integer reversed_integer packed_decimal : FieldType
  hex_float reversed_float binary_float : FieldType

-- Their plain type codes.
abbrev pub types : List (ℕ × FieldType)
types =
    (0x01, fixed_bytes)
    ∷ (0x02, variable_bytes)
    ∷ (0x03, terminated_bytes)
    ∷ (0x07, short_bytes)
    ∷ (0x23, integer)
    ∷ (0x24, reversed_integer)
    ∷ (0x30, packed_decimal)
    ∷ (0x40, hex_float)
    ∷ (0x47, reversed_float)
    ∷ (0x48, binary_float)
    ∷ []

-- A type plus X'80' is its nullable form.
abbrev pub nullable : ℕ → Bool
nullable code = leb 128 code

abbrev pub plain : ℕ → ℕ
plain code = if nullable code then code - 128 else code

-- The type that a code stands for, or none.
unfoldable pub type_of : ℕ → Option FieldType
type_of code = lookup (plain code) types

-- The length field L before a value: two bytes, signed (X'02'), or one byte, unsigned (X'07').
pub data LengthField : Type 0 where
  signed_two unsigned_one : LengthField

-- Where a value ends: after all bytes of its size, after as many as its length field says, or before a zero byte.
pub data Layout : Type 0 where
  fixed : Layout
  counted : LengthField → Layout
  terminated : Layout

-- How large a field is: a field length F in bytes; or, of a packed decimal, its digits, and how many of them are fraction digits (Q-1).
pub data Size : Type 0 where
  bytes : (F : ℕ) → Size
  digits : (p fraction : ℕ) → Size

-- In bytes: p digits take p / 2 + 1, p / 2 rounded down (Q-1).
abbrev pub in_bytes : Size → ℕ
in_bytes (bytes F) = F
in_bytes (digits p fraction) = p / 2 + 1

-- The sizes that a type allows: field lengths, or so many digits.
pub data Sizes : Type 0 where
  up_to : ℕ → Sizes
  one_of : List ℕ → Sizes
  digits_up_to : ℕ → Sizes

-- What bytes 6 and 7 of the type parameters mean by the sizes of their type: F, most significant byte first; or the digits, then the fraction
-- digits.
abbrev pub size_of : Sizes → (byte6 byte7 : ℕ) → Size
size_of (up_to n) byte6 byte7 = bytes (byte6 * 256 + byte7)
size_of (one_of ns) byte6 byte7 = bytes (byte6 * 256 + byte7)
size_of (digits_up_to n) byte6 byte7 = digits byte6 byte7

-- One digit at the least, and at most as many fraction digits as digits.
abbrev pub allows : Sizes → Size → Bool
allows (up_to n) (bytes F) = leb F n
allows (one_of ns) (bytes F) = elem F ns
allows (digits_up_to n) (digits p fraction) = leb 1 p && leb p n && leb fraction p
allows (up_to n) (digits p fraction) = false
allows (one_of ns) (digits p fraction) = false
allows (digits_up_to n) (bytes F) = false

-- A row of the table of rules: the layout of a value, the sizes that are allowed, the default field length of a float (Q-2), and whether there
-- are a mode and a bias indicator.
pub record Rule : Type 0 where
  pub layout : Layout
  pub sizes : Sizes
  pub default : Option ℕ
  pub has_mode : Bool
  pub has_bias : Bool

abbrev pub rule : Layout → Sizes → Option ℕ → Bool → Bool → Rule
rule l n d m b = record { layout = l; sizes = n; default = d; has_mode = m; has_bias = b }

unfoldable pub rule_of : FieldType → Rule
rule_of fixed_bytes = rule fixed (up_to 32767) none false false
rule_of variable_bytes = rule (counted signed_two) (up_to 32767) none true false
rule_of terminated_bytes = rule terminated (up_to 32767) none true false
rule_of short_bytes = rule (counted unsigned_one) (up_to 255) none true false
rule_of integer = rule fixed (one_of (2 ∷ 4 ∷ 8 ∷ [])) none false false
rule_of reversed_integer = rule fixed (one_of (2 ∷ 4 ∷ 8 ∷ [])) none false false
rule_of packed_decimal = rule fixed (digits_up_to 18) none false false
rule_of hex_float = rule fixed (one_of (4 ∷ 8 ∷ 16 ∷ [])) (some 8) false false
rule_of reversed_float = rule fixed (one_of (4 ∷ 8 ∷ [])) (some 4) false true
rule_of binary_float = rule fixed (one_of (4 ∷ 8 ∷ [])) (some 4) false true

-- The field length that holds where an SDA gives F (Q-2): for a type with a default, an F other than 4, 8, 16 means the default. These three hold as
-- they are given, allowed or not: 16 is not among the sizes of X'47' and X'48'.
abbrev pub length_that_holds : (default : Option ℕ) → (F : ℕ) → ℕ
length_that_holds none F = F
length_that_holds (some n) F = if elem F (4 ∷ 8 ∷ 16 ∷ []) then F else n

-- The size that holds, by the rule of a type.
abbrev pub size_that_holds : Rule → Size → Size
size_that_holds r (bytes F) = bytes (length_that_holds r.default F)
size_that_holds r (digits p fraction) = digits p fraction

-- A field length that a group triplet gives, in two bytes (Q-4), replaces bytes 6 and 7 of the type parameters; "a parameter value of zero does not
-- override any bytes" (000, section 4.3.1.4).
abbrev pub replaces : (byte6 byte7 : ℕ) → Bool
replaces byte6 byte7 = ltb 0 (byte6 * 256 + byte7)

-- The replaced length must suit the type by 01's table, with no default put in.
abbrev pub suits : Rule → (byte6 byte7 : ℕ) → Bool
suits r byte6 byte7 = allows r.sizes (size_of r.sizes byte6 byte7)

-- The size that holds for one item, `own` being that of its SDA.
abbrev pub size_replaced : Rule → (own : Size) → (byte6 byte7 : ℕ) → Size
size_replaced r own byte6 byte7 = if replaces byte6 byte7 then size_of r.sizes byte6 byte7 else own
