-- The walk's answer, the plan that it leaves, and the item list by that plan. A marked entry has its item's position in the highest 16 bits.
use Rattle.std.specs.Prelude.{ℕ, ◌+◌, ◌*◌, ◌/◌, ◌%◌, ◌≡◌, List, [], ◌∷◌, ◌++◌, map, length, drop, Ok, Err}
use Rattle.std.specs.Prelude as code
use Rattle.fdoca.specs.declared.Refusal.{Refusal}
use Rattle.fdoca.specs.Basics.{Result, refuse, ok, ◌>>=◌}
use Rattle.fdoca.specs.Item.{Field, measure}
use Rattle.fdoca.specs.Returned.{number_of, answer}
use Rattle.fdoca.specs.Walk.{Note, item_length, note_of, cut_from, walk}
use Rattle.fields.specs.Plan.{entry_of, Proper}

unfoldable pub mark_of : Note → ℕ
mark_of n = entry_of n.field + 281474976710656 * n.start

-- The entries of the fields from position p on, where the bytes s stand, as the walk leaves them: marked, and from the item on that stops it as
-- before.
abbrev pub mark_or : Result Note → (Note → List ℕ) → (before : List ℕ) → List ℕ
mark_or (refuse n p) rest before = before
mark_or (ok n) rest before = mark_of n ∷ rest n

unfoldable pub marks_from : (p : ℕ) → List Field → List ℕ → List ℕ
marks_from p [] s = []
marks_from p (f ∷ fs) s =
    mark_or (note_of f p (measure f s)) (λ n. marks_from (p + item_length n) fs (drop (item_length n) s)) (map entry_of (f ∷ fs))

-- The walk over the fields fs from the place o of the data s on has come to the place `end` behind the items, and the part of a plan that it leaves.
pub record Through (end o : ℕ) (part : List ℕ) (fs : List Field) (s : List ℕ) : Type 0 where
  pub notes : List Note
  pub cut : cut_from o fs (drop o s) ≡ ok (record { notes = notes; end = end; rest = drop end s })
  pub marked : part ≡ map mark_of notes

-- That, or the refusal of an item.
abbrev pub Answered : code.Result ℕ Refusal → (o : ℕ) (part : List ℕ) → List Field → List ℕ → Type 0
Answered (Err x) o part fs s = cut_from o fs (drop o s) ≡ refuse (number_of x.reason) x.place
Answered (Ok end) o part fs s = Through end o part fs s

pub record MarkedPart (r : code.Result ℕ Refusal) (o : ℕ) (part : List ℕ) (fs : List Field) (s : List ℕ) : Type 0 where
  pub marks : part ≡ marks_from o fs (drop o s)
  pub answered : Answered r o part fs s

-- The answer of a walk over the fields fs and the data s, and the plan that it leaves.
pub record Marked (r : code.Result (Unit {0}) Refusal) (plan : List ℕ) (fs : List Field) (s : List ℕ) : Type 0 where
  pub answered : answer r ≡ (walk fs s >>= λ ns. ok tt)
  pub marks : plan ≡ marks_from 0 fs s

-- The item list by a plan's numbers: the count, the block's length, the positions, the ids, and the entries beyond with their old contents.
abbrev pub start_in : ℕ → ℕ
start_in e = e / 281474976710656

abbrev pub id_in : ℕ → ℕ
id_in e = e / 65536 % 256

unfoldable pub list_by : List ℕ → (size : ℕ) → List ℕ → List ℕ
list_by es size old = length es ∷ size ∷ map start_in es ++ map id_in es ++ drop (2 + 2 * length es) old

-- Notes of fields that an accepted descriptor can have.
pub data Noted : List Note → Type 0 where
  nothing : Noted []
  item : {n : Note} {ns : List Note} → Proper n.field → Noted ns → Noted (n ∷ ns)
