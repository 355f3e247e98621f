-- The calls from the examination of the descriptor on: refusals in their order, and the walk to one item.
-- Assumes nothing.
use Rattle.std.specs.Prelude.{Result, Ok, Err}
use mathlib.Core.Path.{◌≡◌, refl}
use Prim.Native.Nat.{ℕ, ◌≤◌, ◌<◌}
use mathlib.Core.Bool.{Bool, true, false, ◌||◌}
use mathlib.Core.List.{List}
use lib.Dec.{ltb}
use lib.ListN.{length}
use borrow.Author.Tests.{lt-ltb, le-ltb}
use Rattle.fdoca.specs.declared.Reason.TheVariants.{Oversize}
use Rattle.fdoca.specs.declared.Refusal.{Refusal}
use Rattle.fdoca.specs.Returned.{reason_of}
use Rattle.fdoca.specs.Basics as defined
use Rattle.fdoca.specs.Basics.{refuse, ◌>>=◌, ◌>>◌, reject}
use Rattle.fdoca.proofs.Returned.{passed_on}
use Rattle.fdoca.specs.Check.{max_descriptor, check}
use Rattle.fdoca.specs.Calls.{max_data, oversize, item_at}
use Rattle.descriptors.specs.declared.Examined.{Examined}
use Rattle.descriptors.specs.Holds.{Examination, Ready}
use Rattle.descriptors.proofs.Callers.{refused_check}
use Rattle.walks.specs.declared.Found.{Found}
use Rattle.lookups.specs.Answer.{item_in, FoundAs}

-- what a call does behind the size limits and the check
module _ {A : Type 0} (d s : List ℕ) (f : ℕ → defined.Result A) where
  abbrev pub call : defined.Result A
  call = reject (oversize d s) 1 0 >> (check d >>= f)

  pub over_data : 32768 < length s → call ≡ refuse 1 0
  over_data h = go (ltb max_descriptor (length d))
    where
      go : (b : Bool) → (reject (b || ltb max_data (length s)) 1 0 >> (check d >>= f)) ≡ refuse 1 0
      go true = refl
      go false = rw (lt-ltb 32768 (length s) h)

  -- without data over its limit the check alone decides
  pub by_check : length s ≤ 32768 → call ≡ (check d >>= f)
  unfolding check
  by_check h = go (ltb max_descriptor (length d)) refl
    where
      go : (b : Bool) → ltb max_descriptor (length d) ≡ b → call ≡ (check d >>= f)
      go true e = rw e
      go false e = rw (e, le-ltb 32768 (length s) h)

-- an accepted descriptor's tables
module _ (d s z e : List ℕ) (y : Examined) (w : Examination d s z e (Ok y)) where
  pub ready : Ready d s z e y.id y.items y.rows
  ready = w.ready y refl

  pub ready_small : y.items ≤ 4096
  ready_small = ready.small

-- a call that asks for one item
module _ (d x : List ℕ) (i : ℕ) where
  pub item_over : 32768 < length x → FoundAs (item_at d x i) x (Err (record { reason = Oversize; place = 0 }))
  unfolding item_at reason_of
  item_over h = rw (over_data d x _ h)

  module _ (s z e : List ℕ) (h : length x ≤ 32768) where
    pub item_refused : (r : Refusal) → Examination d s z e (Err r) → FoundAs (item_at d x i) x (Err r)
    unfolding item_at
    item_refused r w = rw (by_check d x (λ n. item_in d x i) h) (passed_on (check d) (λ n. item_in d x i) (refused_check d s z e r w))

    pub item_fine : (y : Examined) → Examination d s z e (Ok y) → (r : Result Found Refusal) → FoundAs (item_in d x i) x r → FoundAs (item_at d x i) x r
    unfolding item_at
    item_fine y w r v = rw (by_check d x (λ n. item_in d x i) h, (ready d s z e y w).accepted) v
