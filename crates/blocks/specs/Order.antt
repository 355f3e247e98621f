-- The types that have whole numbers, and whether their bytes are reversed.
use Rattle.std.specs.Prelude.{Bool, true, false, Option, None, Some}
use Rattle.fdoca.specs.FieldType.{FieldType, fixed_bytes, variable_bytes, terminated_bytes, short_bytes, integer, reversed_integer, packed_decimal, hex_float, reversed_float, binary_float}

abbrev pub order_of : FieldType → Option Bool
order_of integer = Some false
order_of reversed_integer = Some true
order_of fixed_bytes = None
order_of variable_bytes = None
order_of terminated_bytes = None
order_of short_bytes = None
order_of packed_decimal = None
order_of hex_float = None
order_of reversed_float = None
order_of binary_float = None
