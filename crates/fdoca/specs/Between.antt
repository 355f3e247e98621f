-- Definitions that contracts between crates cite and that no call's definition needs.
use Rattle.std.specs.Prelude.{ℕ, ◌-◌, ◌≤◌, ◌≡◌, List, [], ◌∷◌, length, drop}
use Rattle.std.proofs.Math.Option.{Option, none, some}
use Rattle.fdoca.specs.Item.{Field, item, measure}
use Rattle.fdoca.specs.Walk.{Note}
use Rattle.fdoca.specs.Triplet.{Triplet, Kind, triplets_from}
use Rattle.fdoca.specs.Check as C
use Rattle.fdoca.specs.Unfolding as U

-- A note of an item that stands at its start: measured there again, it is what was noted.
pub record Stands (s : List ℕ) (n : Note) : Type 0 where
  pub starts : n.start ≤ length s
  pub measured : measure n.field (drop n.start s) ≡ item n.is_null n.lead n.value n.spare

-- The triplets from the place p on, as a loop over places meets them.
abbrev pub triplets_at : List ℕ → ℕ → List Triplet
triplets_at d p = triplets_from (length d - p) p (drop p d)

-- The check's view of what the unfolding keeps: type code and extents for a field with extents, a count for a list.
abbrev pub entry : U.Described → C.Entry
entry (U.array f xs) = C.array f.code xs
entry (U.row l) = C.row (length l)

abbrev pub entries : List (ℕ × U.Described) → List (ℕ × C.Entry)
entries [] = []
entries (d ∷ ds) = (d.0, entry d.1) ∷ entries ds

abbrev pub row_counted : Option (ℕ × List Field × Kind) → Option (ℕ × ℕ × Kind)
row_counted none = none
row_counted (some r) = some (r.0, length r.1, r.2)

abbrev pub state : U.Layouts → C.State
state u = record { described = entries u.described; current = row_counted u.current }
