-- How what is found of an item stands to what the definitions give.
use Rattle.std.specs.Prelude.{ℕ, ◌+◌, ◌/◌, ◌%◌, ◌≤◌, ◌≡◌, List, Result, Ok, Err, length}
use Rattle.std.proofs.Math.ListN.{get_elem?}
use Rattle.fdoca.specs.declared.Refusal.{Refusal}
use Rattle.fdoca.specs.declared.State.{State}
use Rattle.fdoca.specs.Basics as defined
use Rattle.fdoca.specs.Basics.{ok, ◌>>=◌, the}
use Rattle.fdoca.specs.Returned.{returned}
use Rattle.fdoca.specs.Walk.{Note}
use Rattle.fdoca.specs.Calls.{state_by}
use Rattle.fields.specs.Plan.{EntryIs}
use Rattle.walks.specs.declared.Found.{Found}
use Rattle.walks.specs.Finding.{found_of}
use Rattle.cuts.specs.Cut.{items_of}

-- Item k of a descriptor's data: refusals of the walk come first, then 17.
abbrev pub item_in : List ℕ → List ℕ → (k : ℕ) → defined.Result Note
item_in d s k = items_of d s >>= λ ns. the (get_elem? ns k) 17 0

-- The state call's answer, by what was found.
abbrev pub state_found : Found → State
state_found f = record { null = f.null; code = f.entry / 16777216 % 256; lead = f.lead; value = f.value; spare = f.spare }

-- The item x of the data s was found as f: it lies within the data, and has the entry of its field.
pub record ItemAs (x : defined.Result Note) (s : List ℕ) (f : Found) : Type 0 where
  pub note : Note
  pub is_item : x ≡ ok note
  pub found : f ≡ found_of note
  pub inside : f.start + f.lead + f.value + f.spare ≤ length s
  pub small : f.start + f.lead + f.value + f.spare ≤ 32768
  pub state : state_found f ≡ state_by note
  pub entry_is : EntryIs note.field f.entry

-- What was found of the item x, or its refusal.
abbrev pub FoundAs : defined.Result Note → List ℕ → Result Found Refusal → Type 0
FoundAs x s (Ok f) = ItemAs x s f
FoundAs x s (Err e) = ◌≡◌ {A = Result Note Refusal} (Err e) (returned x)
