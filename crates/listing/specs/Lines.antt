-- The lines of a good block, by its marked plan.
use Rattle.std.specs.Prelude.{ℕ, suc, ◌/◌, ◌%◌, ◌<◌, ◌≤◌, ◌≡◌, Bool, List, [], ◌∷◌, ◌++◌, length, get_or, drop, if◌then◌else◌}
use Rattle.fdoca.specs.Dump.{decimal, items_word, bytes_word, null_word, line}
use Rattle.fdoca.specs.Item.{Measured, refused, item}
use Rattle.walks.specs.Entry.{measure_entry}

-- The first line: how many items there are, and the data's length.
unfoldable pub first_line : (count size : ℕ) → List ℕ
first_line count size = line items_word (decimal count ∷ bytes_word ∷ decimal size ∷ [])

-- The position and the type code in an entry of a marked plan.
abbrev pub start_in : ℕ → ℕ
start_in e = e / 281474976710656

abbrev pub code_in : ℕ → ℕ
code_in e = e / 16777216 % 256

-- The end of an item's line: its value's length, or `null`.
abbrev pub value_word : Measured → List ℕ
value_word (refused n) = []
value_word (item null lead value spare) = if null then null_word else decimal value

-- The line of item k, of which the plan has the entry e, and which is measured again as m.
unfoldable pub entry_line : (k e : ℕ) → Measured → List ℕ
entry_line k e m = line (decimal k) (decimal (start_in e) ∷ decimal (code_in e) ∷ value_word m ∷ [])

-- The lines of the items that the entries say, from item k on.
unfoldable pub entry_lines : (k : ℕ) → List ℕ → List ℕ → List ℕ
entry_lines k [] s = []
entry_lines k (e ∷ es) s = entry_line k e (measure_entry e (drop (start_in e) s)) ++ entry_lines (suc k) es s

-- Each entry's position lies in the data, and there is an item.
pub record MeasuredIn (s : List ℕ) (e : ℕ) : Type 0 where
  pub starts : start_in e ≤ length s
  pub null : Bool
  pub lead : ℕ
  pub value : ℕ
  pub spare : ℕ
  pub measured : measure_entry e (drop (start_in e) s) ≡ item null lead value spare

pub record EachMeasured (es s : List ℕ) : Type 0 where
  pub each : (k : ℕ) → k < length es → MeasuredIn s (get_or es k 0)
