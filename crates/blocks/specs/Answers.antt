-- How what the list call gives stands to the items of a block.
use Rattle.std.specs.Prelude.{ℕ, ◌≡◌, List, Result, length}
use Rattle.fdoca.specs.declared.Refusal.{Refusal}
use Rattle.fdoca.specs.Basics as defined
use Rattle.fdoca.specs.Basics.{ok, ◌>>=◌, ◌>>◌, reject}
use Rattle.fdoca.specs.Calls.{item_list, small, listed, entries_after}
use Rattle.cuts.specs.Cut.{items_of}

-- The caller's list with a block's items, or the walk's refusal, or 12.
abbrev pub items_into : List ℕ → List ℕ → List ℕ → defined.Result (List ℕ)
items_into d s old = items_of d s >>= λ ns. reject (small (length old) (length ns)) 12 0 >> ok (item_list (length ns) (length s) ns old)

-- What a call returns, and the caller's list afterwards.
pub record ListedAs (x : defined.Result (List ℕ)) (old : List ℕ) (r : Result (Unit {0}) Refusal) (new : List ℕ) : Type 0 where
  pub answered : r ≡ listed x
  pub entries : new ≡ entries_after old x
