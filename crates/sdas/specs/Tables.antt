-- How the check's code stands to document 01's definitions: the numbers that are kept of an id.
use Rattle.std.specs.Prelude.{ℕ, ◌/◌, ◌%◌, ◌<◌, ◌≡◌, ◌≢◌, List, [], ◌∷◌, get_or}
use Rattle.std.proofs.Math.Option.{Option, none, some}
use Rattle.fdoca.specs.Basics.{product, lookup}
use Rattle.fdoca.specs.Check.{Entry, array, row, count_of}
use Rattle.plans.specs.Tied.{lower_of}

-- The product by which elements taken is multiplied, 0 where it can't be.
abbrev pub lower_of_entry : Entry → ℕ
lower_of_entry (array code xs) = lower_of xs
lower_of_entry (row n) = 0

-- No extent is 0.
abbrev pub Positive : Entry → Type 0
Positive (array code []) = Unit {0}
Positive (array code (x ∷ xs)) = 0 < product xs
Positive (row n) = Unit {0}

-- The number of an SDA's field in a plan, which has its type code; 0 for an RLO or a GDA.
abbrev pub Coded : (number : ℕ) → Entry → Type 0
Coded number (array code xs) = (0 < number) × (number / 16777216 % 256 ≡ code)
Coded number (row n) = number ≡ 0

-- What the tables have for an entry: its position (65,535 for an id that is not described), its count with the lower product, and the number of its field.
pub record Entered (start size number : ℕ) (x : Entry) : Type 0 where
  pub here : start ≢ 65535
  pub count : size % 65536 ≡ count_of x
  pub lower : size / 65536 ≡ lower_of_entry x
  pub positive : Positive x
  pub coded : Coded number x

abbrev pub KeptAs : (start size number : ℕ) → Option Entry → Type 0
KeptAs start size number none = start ≡ 65535
KeptAs start size number (some x) = Entered start size number x

-- The tables of positions, sizes and numbers of fields agree with the described ids.
abbrev pub Agrees : (s z e : List ℕ) → List (ℕ × Entry) → Type 0
Agrees s z e es = (i : ℕ) → i < 256 → KeptAs (get_or s i 0) (get_or z i 0) (get_or e i 0) (lookup i es)

-- They stand for some described ids.
pub record Agreeing (s z e : List ℕ) : Type 0 where
  pub described_ids : List (ℕ × Entry)
  pub agrees : Agrees s z e described_ids
