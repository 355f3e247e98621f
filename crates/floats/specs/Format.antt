-- The formats of the definitions.
use Rattle.fdoca.specs.Float as defined
use Rattle.fdoca.specs.Float.{short_hexadecimal, long_hexadecimal, short_binary, long_binary}
use Rattle.floats.specs.declared.Format.{Format}
use Rattle.floats.specs.declared.Format.TheVariants.{ShortHexadecimal, LongHexadecimal, ShortBinary, LongBinary}

abbrev pub format_of : Format → defined.Format
format_of ShortHexadecimal = short_hexadecimal
format_of LongHexadecimal = long_hexadecimal
format_of ShortBinary = short_binary
format_of LongBinary = long_binary
