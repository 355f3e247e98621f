-- Whole numbers of up to eight bytes: document 01, "Field types", X'23' and X'24'.
use Rattle.std.specs.Prelude.{ℕ, ◌*◌, Bool, List, leb, ltb, ℤ, pos, ◌-ℤ◌, length, if◌then◌else◌}
use Rattle.fdoca.specs.Calls.{ordered, signed}

-- Two's complement in a width of 2 h numbers: from h on, n stands for itself less 2 h.
unfoldable pub twos : (h n : ℕ) → ℤ
twos h n = if ltb n h then pos n else pos n -ℤ pos (2 * h)

-- The whole number of up to eight bytes; 0 past eight, which no whole-number field has.
unfoldable pub whole_up_to_8 : List ℕ → Bool → ℤ
whole_up_to_8 s reversed = if leb (length s) 8 then signed (ordered s reversed) else pos 0
