-- How the cut of a block stands to its items.
use Rattle.std.specs.Prelude.{ℕ, ◌≤◌, ◌≡◌, List, Result, map, length, take, if◌then◌else◌}
use Rattle.fdoca.specs.declared.Refusal.{Refusal}
use Rattle.fdoca.specs.Basics as defined
use Rattle.fdoca.specs.Basics.{ok, ◌>>=◌}
use Rattle.fdoca.specs.Returned.{returned}
use Rattle.fdoca.specs.Walk.{Note, walk_by}
use Rattle.fdoca.specs.Unfolding.{unfolded, repeated}
use Rattle.descriptors.specs.declared.Examined.{Examined}
use Rattle.walks.specs.Marks.{mark_of, Noted}

-- The items of a descriptor's data.
abbrev pub items_of : List ℕ → List ℕ → defined.Result (List Note)
items_of d s = walk_by (unfolded d) (repeated d) s

-- How many entries a plan has: as many as there are items, with rows to the end the most that there may be.
abbrev pub entries_for : Examined → ℕ
entries_for x = if x.rows then 4096 else x.items

abbrev pub Fitting : Examined → List ℕ → Type 0
Fitting x plan = entries_for x ≡ length plan

-- The items' marks are the first entries of a plan.
pub record MarksOf (ns : List Note) (plan : List ℕ) : Type 0 where
  pub marks : take (length ns) plan ≡ map mark_of ns
  pub noted : Noted ns
  pub few : length ns ≤ 4096
  pub within : length ns ≤ length plan

-- What the cut r returns for the data s, how many items there are or the refusal, and the plan that it leaves in a good block.
pub record CutAs (d s plan : List ℕ) (r : Result ℕ Refusal) : Type 0 where
  pub counted : r ≡ returned (items_of d s >>= λ ns. ok (length ns))
  pub marked : (ns : List Note) → items_of d s ≡ ok ns → MarksOf ns plan
