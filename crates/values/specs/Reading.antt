-- How the bytes of a value are read.
use Rattle.std.specs.Prelude.{ℕ, Bool, [], ◌∷◌, eqb, Option, Some, None, if◌then◌else◌}
use Rattle.std.proofs.Math.Option.{none, some}
use Rattle.std.proofs.Math.Option as defined_option
use Rattle.fdoca.specs.Basics.{lookup}
use Rattle.fdoca.specs.Calls as defined
use Rattle.fdoca.specs.Calls.{whole, float, reading_by}
use Rattle.fdoca.specs.FieldType.{FieldType, types}
use Rattle.floats.specs.declared.Format.{Format}
use Rattle.floats.specs.declared.Format.TheVariants.{ShortBinary, LongBinary}
use Rattle.floats.specs.Format.{format_of}
use Rattle.values.specs.declared.Reading.{Reading}
use Rattle.values.specs.declared.Reading.TheVariants.{Whole, Float}

-- The definitions' reading that a reading stands for.
abbrev pub defined_reading : Reading → defined.Reading
defined_reading (Whole reversed) = whole reversed
defined_reading (Float reversed f) = float reversed (format_of f)

abbrev pub maybe_defined : Option Reading → defined_option.Option defined.Reading
maybe_defined None = none
maybe_defined (Some r) = some (defined_reading r)

-- A float of 4 or of 8 bytes, and a binary one.
abbrev pub by_length : (F : ℕ) → (reversed : Bool) → (short long : Format) → defined_option.Option defined.Reading
by_length F reversed short long = lookup F ((4, float reversed (format_of short)) ∷ (8, float reversed (format_of long)) ∷ [])

abbrev pub binary_by : (F bias : ℕ) → (reversed : Bool) → defined_option.Option defined.Reading
binary_by F bias reversed = if eqb bias 0 then by_length F reversed ShortBinary LongBinary else none

-- By a plain code: none where it stands for no type.
abbrev pub reading_if : defined_option.Option FieldType → (F bias : ℕ) → defined_option.Option defined.Reading
reading_if none F bias = none
reading_if (some T) F bias = reading_by T F bias

abbrev pub reading_for : (plain F bias : ℕ) → defined_option.Option defined.Reading
reading_for plain F bias = reading_if (lookup plain types) F bias
