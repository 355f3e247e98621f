-- Layouts by their numbers, and what they mean.
use Rattle.std.specs.Prelude.{ℕ, eqb, if◌then◌else◌}
use Rattle.fdoca.specs.FieldType.{fixed, counted, terminated, signed_two, unsigned_one, Sizes, up_to, one_of, digits_up_to}
use Rattle.fdoca.specs.FieldType as definition
use Rattle.field_types.specs.declared.Layout.{Layout}
use Rattle.field_types.specs.declared.Layout.TheVariants.{Fixed, Short, Long, Terminated, Digits}

-- A layout's number, and the layout by which an item of a number is measured.
abbrev pub number_of : Layout → ℕ
number_of Fixed = 0
number_of Short = 1
number_of Long = 2
number_of Terminated = 3
number_of Digits = 4

unfoldable pub numbered : ℕ → Layout
numbered n =
    if eqb n 0 then Fixed
    else if eqb n 1 then Short
    else if eqb n 2 then Long
    else Terminated

-- The definitions' layout that it means; a packed decimal's is fixed.
unfoldable pub layout_of : Layout → definition.Layout
layout_of Fixed = fixed
layout_of Short = counted unsigned_one
layout_of Long = counted signed_two
layout_of Terminated = terminated
layout_of Digits = fixed

-- And the one that a number means.
abbrev pub layout_by : ℕ → definition.Layout
layout_by n = layout_of (numbered n)

-- The definitions' layout by its number in a plan's entry.
unfoldable pub prefix_of : definition.Layout → ℕ
prefix_of fixed = 0
prefix_of (counted unsigned_one) = 1
prefix_of (counted signed_two) = 2
prefix_of terminated = 3

-- A type's layout, by its sizes and the definitions' layout.
unfoldable pub form_of : Sizes → definition.Layout → Layout
form_of (up_to n) l = numbered (prefix_of l)
form_of (one_of ns) l = numbered (prefix_of l)
form_of (digits_up_to n) l = Digits
