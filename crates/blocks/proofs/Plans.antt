-- What marking a plan lists is what the definitions say.
-- Assumes nothing.
use Rattle.std.specs.Prelude.{Ok, Err}
use mathlib.Core.Path.{◌≡◌, refl, ◌∙◌}
use Prim.Native.Nat.{ℕ, ◌+◌, ◌*◌, ◌≤◌, ◌<◌}
use native.Mathlib.Omega.{arith}
use mathlib.Core.List.{List}
use lib.ListN.{length, take}
use borrow.Author.Tests.{lt-ltb, le-ltb}
use Rattle.fdoca.specs.declared.Reason.TheVariants.{SmallList}
use Rattle.fdoca.specs.declared.Refusal.{Refusal}
use Rattle.fdoca.specs.Basics.{Result, refuse, ok}
use Rattle.fdoca.specs.Returned.{reason_of, returned}
use Rattle.fdoca.proofs.Returned.{passed_on}
use Rattle.fdoca.specs.Calls.{item_list}
use Rattle.descriptors.specs.declared.Examined.{Examined}
use Rattle.descriptors.specs.Holds.{Ready}
use Rattle.walks.specs.Marks.{list_by}
use Rattle.walks.proofs.Writing.{list_by_marks}
use Rattle.cuts.specs.Cut.{items_of, CutAs}
use Rattle.cuts.proofs.Callers.{Items, cut_refused, cut_good, marked_part_lem}
use Rattle.blocks.specs.Answers.{items_into, ListedAs}

-- a refused call leaves the list as before
pub not_listed : (x : Result (List ℕ)) (old : List ℕ) (e : Refusal) → Err e ≡ returned x → ListedAs x old (Err e) old
not_listed (refuse n p) old e h = record { answered = cc; entries = refl }
not_listed (ok l) old e h = absurd (let z : ◌≡◌ {A = ℕ} 0 1 = cc in let o : ⊥ = omega arith in o)

module _ (d x s z e : List ℕ) (y : Examined) (rd : Ready d s z e y.id y.items y.rows) (plan old : List ℕ) where
  pub stopped_way : (e : Refusal) → CutAs d x plan (Err e) → ListedAs (items_into d x old) old (Err e) old
  stopped_way e cut = not_listed (items_into d x old) old e (passed_on (items_of d x) _ (cut_refused d x plan y.items rd.accepted e cut))

  module _ (n : ℕ) (cut : CutAs d x plan (Ok n)) where
    good : Items d x plan n
    good = cut_good d x plan y.items rd.accepted n cut

    pub item_part : n ≡ length (take n plan)
    item_part = marked_part_lem d x plan y.items rd.accepted n cut

    pub few_items : n ≤ 4096
    few_items = good.few

    pub items_within : n ≤ length plan
    items_within = good.within

    pub small_way : length old < 2 + 2 * n → ListedAs (items_into d x old) old (Err (record { reason = SmallList; place = 0 })) old
    unfolding reason_of
    small_way l =
        let m : length old < 2 + 2 * length good.notes = omega (arith, good.count_is) in
        rw (good.items_are, lt-ltb (length old) (2 + 2 * length good.notes) m) (record { answered = refl; entries = refl })

    module _ (l : 2 + 2 * n ≤ length old) where
      pub part_room : 2 + 2 * length (take n plan) ≤ length old
      part_room = rw (← item_part) l

      pub part_few : length (take n plan) ≤ 4096
      part_few = rw (← item_part) good.few

      pub listed_way : (new : List ℕ) → new ≡ list_by (take n plan) (length x) old → ListedAs (items_into d x old) old (Ok tt) new
      listed_way new g =
          let k : new ≡ item_list (length good.notes) (length x) good.notes old = g ∙ list_by_marks (take n plan) (length x) old good.notes good.noted good.marks in
          let m : 2 + 2 * length good.notes ≤ length old = omega (arith, good.count_is) in
          rw (good.items_are, le-ltb (length old) (2 + 2 * length good.notes) m) (record { answered = refl; entries = k })
