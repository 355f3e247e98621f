-- One item of a block: where it starts, and how its bytes are laid out.
use Rattle.std.specs.Prelude.{ℕ, ◌≡◌, List}
use Rattle.fdoca.specs.Walk.{Note}
use Rattle.fdoca.specs.Item.{Field}
use Rattle.fdoca.specs.Between.{Stands}
use Rattle.fields.specs.Plan.{entry_of, Proper, Planned}
use Rattle.walks.specs.declared.Found.{Found}
use Rattle.walks.specs.Marks.{mark_of}

-- A noted item as it is found.
abbrev pub found_of : Note → Found
found_of n = record { start = n.start; null = n.is_null; lead = n.lead; value = n.value; spare = n.spare; entry = entry_of n.field }

-- The numbers es are a plan.
pub record IsPlan (es : List ℕ) : Type 0 where
  pub fields : List Field
  pub planned : Planned es fields

-- The number e is the mark of an item of the data s.
pub record MarkIn (s : List ℕ) (e : ℕ) (n : Note) : Type 0 where
  pub mark : e ≡ mark_of n
  pub proper : Proper n.field
  pub stands : Stands s n

pub record IsMark (s : List ℕ) (e : ℕ) : Type 0 where
  pub note : Note
  pub mark_in : MarkIn s e note

-- What is found by such a mark is that item.
pub record FoundBy (s : List ℕ) (e : ℕ) (r : Found) : Type 0 where
  pub each : (n : Note) → MarkIn s e n → r ≡ found_of n
