-- The types that are carried, and the definitions' type that each stands for.
use Rattle.std.specs.Prelude.{Option, None, Some}
use Rattle.std.proofs.Math.Option.{none, some}
use Rattle.std.proofs.Math.Option as defined_option
use Rattle.fdoca.specs.FieldType as definition
use Rattle.fdoca.specs.FieldType.{fixed_bytes, variable_bytes, terminated_bytes, short_bytes, integer, reversed_integer, packed_decimal, hex_float, reversed_float, binary_float}
use Rattle.field_types.specs.declared.FieldType.{FieldType}
use Rattle.field_types.specs.declared.FieldType.TheVariants.{FixedBytes, VariableBytes, TerminatedBytes, ShortBytes, Integer, ReversedInteger, PackedDecimal, HexFloat, ReversedFloat, BinaryFloat}

abbrev pub defined_type : FieldType → definition.FieldType
defined_type FixedBytes = fixed_bytes
defined_type VariableBytes = variable_bytes
defined_type TerminatedBytes = terminated_bytes
defined_type ShortBytes = short_bytes
defined_type Integer = integer
defined_type ReversedInteger = reversed_integer
defined_type PackedDecimal = packed_decimal
defined_type HexFloat = hex_float
defined_type ReversedFloat = reversed_float
defined_type BinaryFloat = binary_float

abbrev pub maybe_defined : Option FieldType → defined_option.Option definition.FieldType
maybe_defined None = none
maybe_defined (Some T) = some (defined_type T)
