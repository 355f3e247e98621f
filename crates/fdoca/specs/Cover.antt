-- Where a block's items lie: what the demands say of the items that the walk notes, and of the parts that the standard's account has.
use Rattle.std.specs.Prelude.{ℕ, ◌+◌, ◌≤◌, ◌<◌, ◌≡◌, List, [], ◌∷◌, ◌++◌, map, ltb, length, take, drop, get_or, if◌then◌else◌}
use Rattle.std.proofs.Math.Option.{some}
use Rattle.std.proofs.Math.ListN.{get_elem?}
use Rattle.fdoca.specs.Item.{Field}
use Rattle.fdoca.specs.Walk.{Note, item_length}
use Rattle.fdoca.specs.Account.{Parts}

abbrev pub sum : List ℕ → ℕ
sum [] = 0
sum (n ∷ ns) = n + sum ns

-- The positions of pieces of the given lengths, laid end to end from p on.
abbrev pub positions : ℕ → List ℕ → List ℕ
positions p [] = []
positions p (n ∷ ns) = p ∷ positions (p + n) ns

abbrev pub lengths : List Note → List ℕ
lengths ns = map (λ i. item_length i) ns

-- The byte at place i lies in item k.
pub record InItem (ns : List Note) (i k : ℕ) : Type 0 where
  pub among : k < length ns
  pub after : get_or (map (λ x. x.start) ns) k 0 ≤ i
  pub before : i < get_or (map (λ x. x.start) ns) k 0 + get_or (lengths ns) k 0

-- The three parts of an item (document 02, Q-6): where each begins in the data, how long it is, and its bytes.
pub data Part : Type 0 where
  lead : Part
  value : Part
  spare : Part

abbrev pub part_start : Note → Part → ℕ
part_start i lead = i.start
part_start i value = i.start + i.lead
part_start i spare = i.start + i.lead + i.value

abbrev pub part_length : Note → Part → ℕ
part_length i lead = i.lead
part_length i value = i.value
part_length i spare = i.spare

abbrev pub part_bytes : List ℕ → Note → Part → List ℕ
part_bytes s i w = take (part_length i w) (drop (part_start i w) s)

-- The bytes of the three parts of all items, in order.
abbrev pub all_parts : List ℕ → List Note → List ℕ
all_parts s [] = []
all_parts s (i ∷ ns) = part_bytes s i lead ++ (part_bytes s i value ++ (part_bytes s i spare ++ all_parts s ns))

-- The byte at place b lies in a part of item k.
pub record InPart (ns : List Note) (b k : ℕ) (w : Part) : Type 0 where
  pub note : Note
  pub is_item : get_elem? ns k ≡ some note
  pub after : part_start note w ≤ b
  pub before : b < part_start note w + part_length note w

-- Where item k ends by the item list l: where the next one starts, or the last one at the block's length.
abbrev pub end_listed : List ℕ → (k : ℕ) → ℕ
end_listed l k = if ltb (1 + k) (get_or l 0 0) then get_or l (3 + k) 0 else get_or l 1 0

-- How many bytes an item's parts have, and those of the items before item k: where it starts.
abbrev pub size : Parts → ℕ
size x = length x.lead + length x.value + length x.spare

abbrev pub start_of : List Parts → (k : ℕ) → ℕ
start_of xs k = sum (map size (take k xs))

-- The note of an item's parts at a position, and the notes of a block's items, laid end to end from p on.
abbrev pub note_of_parts : ℕ → Field → Parts → Note
note_of_parts p f x =
    record { start = p; field = f; is_null = x.is_null; lead = length x.lead; value = length x.value; spare = length x.spare }

abbrev pub notes_of : ℕ → List Field → List Parts → List Note
notes_of p [] xs = []
notes_of p (f ∷ fs) [] = []
notes_of p (f ∷ fs) (x ∷ xs) = note_of_parts p f x ∷ notes_of (p + size x) fs xs
