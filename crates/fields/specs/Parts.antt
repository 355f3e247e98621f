-- A plan's entry, by the numbers that its field is given in.
use Rattle.std.specs.Prelude.{ℕ, ◌+◌, ◌*◌, ◌/◌, ◌%◌, eqb, if◌then◌else◌}

-- The parts of a plan's entry that a size makes, given as one number, by the layout's number: its length in bytes, and the layout's number
-- with the digits' part.
unfoldable pub length_part : (layout size : ℕ) → ℕ
length_part layout size = if eqb layout 4 then size / 256 / 2 + 1 else size

unfoldable pub layout_part : (layout size : ℕ) → ℕ
layout_part layout size = if eqb layout 4 then 4 * (size / 256 % 2 + 2 * (size % 256)) else layout

-- The entry, `own` being id, type code, mode and bias indicator as one number.
unfoldable pub entry_by : (own layout size : ℕ) → ℕ
entry_by own layout size = length_part layout size + 65536 * (own + 16777216 * layout_part layout size)
