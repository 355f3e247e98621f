-- What the functions that write a plan find at a place of a descriptor.
use Rattle.std.specs.Prelude.{ℕ, ◌+◌, ◌-◌, ◌*◌, ◌/◌, ◌%◌, ◌≡◌, List, ltb, eqb, length, get_or, if◌then◌else◌}
use Rattle.std.proofs.Math.Option.{some}
use Rattle.fdoca.specs.Basics.{lookup}
use Rattle.fdoca.specs.Triplet.{Kind, Group, taken}
use Rattle.fdoca.specs.Item.{Field}
use Rattle.fdoca.specs.Unfolding.{Described, group_fields}
use Rattle.plans.specs.Tied.{described_by, Takes}

-- The group whose three bytes stand at g.
unfoldable pub group_at : List ℕ → (g : ℕ) → Group
group_at d g = record { ref = get_or d g 0; byte1 = get_or d (g + 1) 0; byte2 = get_or d (g + 2) 0 }

-- The list that a group adds.
unfoldable pub group_list : List ℕ → Kind → Group → List Field
group_list d kind g = group_fields kind (described_by d) g

-- A group of an RLO refers to a described id, of which it can take its elements.
pub record RefersRow (d : List ℕ) (g : Group) : Type 0 where
  pub to : Described
  pub known : lookup g.ref (described_by d) ≡ some to
  pub takes : Takes (taken g) to

-- How many items a group takes once of an SDA of this size (`SdaKept`): all, or elements taken times the product of the lower extents.
unfoldable pub entries_taken : (size taken : ℕ) → ℕ
entries_taken size taken = if eqb taken 0 then size % 65536 else taken * (size / 65536)

-- The end of the CPT at g; 0 where none stands there.
unfoldable pub end_of_cpt : List ℕ → (g : ℕ) → ℕ
end_of_cpt d g =
    if ltb (length d - g) 3 then 0
    else if eqb (get_or d (g + 1) 0) 0x7F then g + get_or d g 0
    else 0
