-- What the dump program prints (document 01, "The item list and the dump program"), as the bytes of its text.
use Rattle.std.specs.Prelude.{ℕ, zero, suc, ◌+◌, ◌/◌, ◌%◌, ◌||◌, not, List, [], ◌∷◌, ◌++◌, ltb, eqb, length, take, drop, if◌then◌else◌}
use Prim.Native.Char.{code}
use Prim.Native.String.{String}
use Rattle.fdoca.specs.Basics.{big, Result, refuse, ok, ◌>>=◌, ◌>>◌, reject}
use Rattle.fdoca.specs.Walk.{Note, walk_by}
use Rattle.fdoca.specs.Check.{check, max_descriptor}
use Rattle.fdoca.specs.Unfolding.{unfolded, repeated}
use Rattle.fdoca.specs.Calls.{oversize, max_data}

-- A number in decimal: its last digit stands behind the number of tens. The fuel is above the number.
abbrev pub decimal_by : (fuel n : ℕ) → List ℕ
decimal_by zero n = []
decimal_by (suc fuel) n = if ltb n 10 then (48 + n) ∷ [] else decimal_by fuel (n / 10) ++ ((48 + n % 10) ∷ [])

unfoldable pub decimal : ℕ → List ℕ
decimal n = decimal_by (suc n) n

-- A word's bytes: the numbers of its characters.
abbrev pub word : String → List ℕ
word String.[] = []
word (String.◌∷◌ c s) = code c ∷ word s

abbrev pub items_word : List ℕ
items_word = word "items"

abbrev pub bytes_word : List ℕ
bytes_word = word "bytes"

abbrev pub null_word : List ℕ
null_word = word "null"

abbrev pub refused_word : List ℕ
refused_word = word "refused"

-- Words one space apart, and a newline.
abbrev pub line : List ℕ → List (List ℕ) → List ℕ
line w [] = w ++ (10 ∷ [])
line w (v ∷ vs) = w ++ (32 ∷ line v vs)

unfoldable pub refused_line : (number place : ℕ) → List ℕ
refused_line n p = line refused_word (decimal n ∷ decimal p ∷ [])

-- Item, start, type code, value length or `null`.
unfoldable pub item_line : (k : ℕ) → Note → List ℕ
item_line k i = line (decimal k) (decimal i.start ∷ decimal i.field.code ∷ (if i.is_null then null_word else decimal i.value) ∷ [])

unfoldable pub item_lines : (k : ℕ) → List Note → List ℕ
item_lines k [] = []
item_lines k (i ∷ is) = item_line k i ++ item_lines (suc k) is

-- The text of a descriptor and its data.
abbrev pub text_of : (size : ℕ) → Result (List Note) → List ℕ
text_of size (refuse n p) = refused_line n p
text_of size (ok ns) = line items_word (decimal (length ns) ∷ bytes_word ∷ decimal size ∷ []) ++ item_lines 0 ns

unfoldable pub block_notes : List ℕ → List ℕ → Result (List Note)
block_notes d s = do
  reject (oversize d s) 1 0
  n ← check d
  walk_by (unfolded d) (repeated d) s

-- A file: descriptor size, data size (four bytes each, most significant first), descriptor, data.
abbrev pub first_size : List ℕ → ℕ
first_size f = big (take 4 f)

abbrev pub second_size : List ℕ → ℕ
second_size f = big (take 4 (drop 4 f))

unfoldable pub dump : List ℕ → List ℕ
dump f =
    if ltb (length f) 8 then refused_line 19 0
    else if ltb max_descriptor (first_size f) || ltb max_data (second_size f) then refused_line 1 0
    else if not (eqb (length f) (8 + first_size f + second_size f)) then refused_line 19 0
    else text_of (second_size f) (block_notes (take (first_size f) (drop 8 f)) (drop (8 + first_size f) f))
