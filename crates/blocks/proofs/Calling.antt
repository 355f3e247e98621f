-- The list call from the examination of the descriptor on: refusals in their order, and the walk.
-- Assumes nothing.
use Rattle.std.specs.Prelude.{Result, Ok, Err}
use mathlib.Core.Path.{◌≡◌, refl}
use Prim.Native.Nat.{ℕ, ◌-◌, ◌≤◌, ◌<◌}
use native.Mathlib.Omega.{arith}
use mathlib.Core.Bool.{Bool, true, false, not, ◌&&◌}
use mathlib.Core.List.{List}
use mathlib.Core.Option.{Option, none, some}
use lib.ListN.{length}
use Rattle.fdoca.specs.declared.Reason.TheVariants.{Oversize, SmallList}
use Rattle.fdoca.specs.declared.Refusal.{Refusal}
use Rattle.fdoca.specs.Returned.{reason_of}
use Rattle.fdoca.specs.Basics.{is_some, ◌>>◌, reject}
use Rattle.fdoca.specs.Item.{Field}
use Rattle.fdoca.specs.Unfolding.{repeated}
use Rattle.fdoca.specs.Check.{check}
use Rattle.fdoca.specs.Calls.{small, list}
use Rattle.fdoca.proofs.Returned.{passed_on}
use Rattle.blocks.proofs.Plans.{not_listed}
use Rattle.rows.specs.Pass.{pass_list}
use Rattle.descriptors.specs.declared.Examined.{Examined}
use Rattle.descriptors.specs.Holds.{Examination}
use Rattle.descriptors.proofs.Callers.{refused_check}
use Rattle.lookups.proofs.Calling.{over_data, by_check}
use Rattle.blocks.specs.Answers.{items_into, ListedAs}

module _ (d x old : List ℕ) where
  pub list_over : 32768 < length x → ListedAs (list d x old) old (Err (record { reason = Oversize; place = 0 })) old
  unfolding list reason_of
  list_over h = rw (over_data d x _ h) (record { answered = refl; entries = refl })

  module _ (s z e : List ℕ) (h : length x ≤ 32768) where
    pub list_refused : (r : Refusal) → Examination d s z e (Err r) → ListedAs (list d x old) old (Err r) old
    unfolding list
    list_refused r w = rw (by_check d x _ h) (not_listed _ old r (passed_on (check d) _ (refused_check d s z e r w)))

    module _ (y : Examined) (w : Examination d s z e (Ok y)) where
      rows_are : (o : Option (List Field)) → repeated d ≡ o → y.rows ≡ is_some o
      rows_are none r = go y.rows refl
        where
          go : (b : Bool) → y.rows ≡ b → b ≡ false
          go true q = let n : repeated d ≡ some (pass_list d (length d - 3)) = (w.ready y refl).repeats q in absurd (let v : ◌≡◌ {A = ℕ} 0 1 = cc in let o : ⊥ = omega arith in o)
          go false q = refl
      rows_are (some l) r = go y.rows refl
        where
          go : (b : Bool) → y.rows ≡ b → b ≡ true
          go true q = refl
          go false q = let n : repeated d ≡ none = (w.ready y refl).no_rows q in absurd (let v : ◌≡◌ {A = ℕ} 0 1 = cc in let o : ⊥ = omega arith in o)

      small_is : (b : Bool) → b ≡ (not y.rows && small (length old) y.items) → list d x old ≡ (reject b 12 0 >> items_into d x old)
      unfolding list
      small_is b q = rw (by_check d x _ h, (w.ready y refl).accepted, ← rows_are (repeated d) refl, ← q)

      pub list_small : (b : Bool) → b ≡ (not y.rows && small (length old) y.items) → b ≡ true → ListedAs (list d x old) old (Err (record { reason = SmallList; place = 0 })) old
      unfolding reason_of
      list_small b q t = rw (small_is b q, t) (record { answered = refl; entries = refl })

      pub list_fine : (b : Bool) (r : Result (Unit {0}) Refusal) (new : List ℕ) → b ≡ (not y.rows && small (length old) y.items) → b ≡ false → ListedAs (items_into d x old) old r new
          → ListedAs (list d x old) old r new
      list_fine b r new q t v = rw (small_is b q, t) v
