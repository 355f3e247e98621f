-- A whole significand, times a power of two.
use Rattle.std.specs.Prelude.{ℕ, ◌*◌, ◌^◌}
use Rattle.floats.specs.declared.Scaled.{Scaled}

abbrev pub units_of : Scaled → ℕ
units_of x = x.significand * 2 ^ x.power
