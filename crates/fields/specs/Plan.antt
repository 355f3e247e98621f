-- A plan: the unfolding of an accepted descriptor with a number for each field, which holds all that walking and telling an item need.
use Rattle.std.specs.Prelude.{ℕ, ◌+◌, ◌*◌, ◌%◌, ◌<◌, ◌≡◌, List, [], ◌∷◌}
use Rattle.fdoca.specs.FieldType.{Size, bytes, digits, rule_of}
use Rattle.fdoca.specs.Item.{Field, field_length}
use Rattle.field_types.specs.Layouts.{prefix_of}

-- What a size says beyond its length in bytes: whether its digits are odd in number, and how many are fraction digits.
unfoldable pub digits_part : Size → ℕ
digits_part (bytes F) = 0
digits_part (digits p fraction) = p % 2 + 2 * fraction

-- Id and type code (8 bits each), mode (7 bits) and bias indicator (1 bit) as one number.
abbrev pub own_of : Field → ℕ
own_of f = f.id + 256 * (f.code + 256 * (f.mode + 128 * f.bias))

-- Field length in bytes (16 bits), then that number, the layout's number (2 bits) and the digits' part (6 bits). The highest 16 bits are left to the walk.
unfoldable pub entry_of : Field → ℕ
entry_of f = field_length f + 65536 * (own_of f + 16777216 * (prefix_of (rule_of f.type).layout + 4 * digits_part f.size))

-- The parts of a field that an accepted descriptor can have.
pub record Proper (f : Field) : Type 0 where
  pub length_fits : field_length f < 65536
  pub id_fits : f.id < 256
  pub id_given : 0 < f.id
  pub code_fits : f.code < 256
  pub mode_fits : f.mode < 128
  pub bias_fits : f.bias < 2
  pub digits_fit : digits_part f.size < 64

-- The number e is the entry of such a field.
pub record EntryIs (f : Field) (e : ℕ) : Type 0 where
  pub entry : e ≡ entry_of f
  pub proper : Proper f

-- The numbers of a plan stand for the fields.
pub data Planned : List ℕ → List Field → Type 0 where
  empty : Planned [] []
  entry : {f : Field} {es : List ℕ} {fs : List Field} → Proper f → Planned es fs → Planned (entry_of f ∷ es) (f ∷ fs)
