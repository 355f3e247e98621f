-- The test of an SDA's eight type parameter bytes (document 01, "Field types"), its parts, and the shape of an SDA that is good.
use Rattle.std.specs.Prelude.{ℕ, ◌+◌, ◌*◌, ◌/◌, ◌%◌, Bool, true, false, ◌&&◌, List, leb, eqb, length, get_or, Option, None, Some}
use Rattle.fdoca.specs.FieldType.{type_of, Sizes, Size, bytes, digits, size_of, allows}
use Rattle.fdoca.specs.Triplet.{size_in}
use Rattle.fdoca.specs.Check.{most, good_type}
use Rattle.field_types.specs.declared.Layout.{Layout}
use Rattle.field_types.specs.declared.Layout.TheVariants.{Fixed, Short, Long, Terminated, Digits}
use Rattle.field_types.specs.declared.Rule.{Rule}
use Rattle.field_types.specs.declared.Shape.{Shape}
use Rattle.field_types.specs.Layouts.{form_of}
use Rattle.field_types.specs.Rows.{sizes_of, rule_for}

-- The bytes that no type has a parameter in.
unfoldable pub unused_zero : List ℕ → Bool
unused_zero ps = eqb (get_or ps 0 0) 0 && (eqb (get_or ps 1 0) 0 && eqb (get_or ps 4 0) 0)

-- A size, by its two bytes as one number, is allowed.
unfoldable pub allows_number : Sizes → (size : ℕ) → Bool
allows_number z size = allows z (size_of z (size / 256) (size % 256))

-- A rule allows a bias indicator, a mode and a size.
unfoldable pub rule_allows : Rule → (bias mode size : ℕ) → Bool
rule_allows r bias mode size = leb bias (most r.has_bias) && (leb mode (most r.has_mode) && allows_number (sizes_of r.sizes) size)

-- The parameters are eight bytes, and good for the type that the code stands for.
unfoldable pub good_eight : (code : ℕ) → List ℕ → Bool
good_eight code ps = eqb (length ps) 8 && good_type (type_of code) ps

-- The layout of the rule by which a code is judged.
unfoldable pub layout_for : (code : ℕ) → Layout
layout_for code = form_of (rule_for (type_of code)).sizes (rule_for (type_of code)).layout

-- The size of a code's type is in digits.
abbrev pub is_digits : Layout → Bool
is_digits Fixed = false
is_digits Short = false
is_digits Long = false
is_digits Terminated = false
is_digits Digits = true

unfoldable pub in_digits : (code : ℕ) → Bool
in_digits code = is_digits (layout_for code)

-- A size as one number: F, or the digits and the fraction digits in a byte each.
abbrev pub size_number : Size → ℕ
size_number (bytes F) = F
size_number (digits p fraction) = p * 256 + fraction

-- The shape by the rule of a code, with the size that holds.
unfoldable pub shape_of : (code : ℕ) → List ℕ → Shape
shape_of code ps = record { layout = layout_for code; size = size_number (size_in (rule_for (type_of code)) ps) }

-- The shape of an SDA by whether it is good.
unfoldable pub shape_if : Bool → (code : ℕ) → List ℕ → Option Shape
shape_if true code ps = Some (shape_of code ps)
shape_if false code ps = None
