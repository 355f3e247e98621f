-- What a caller gives to `write` and `endless`, and what it knows of the plan that `write` leaves.
-- Assumes nothing.
use mathlib.Core.Path.{◌≡◌, sym, ap, ◌∙◌}
use mathlib.Core.List.{List, ◌++◌, map}
use Prim.Native.Nat.{ℕ, ◌+◌, ◌≤◌, min}
use native.Mathlib.Omega.{arith}
use lib.ListN.{length, get_or, take, length-map, length-take}
use lib.Seq.{sets, length-sets}
use Rattle.fdoca.specs.Item.{Field}
use Rattle.fdoca.specs.Unfolding.{Described, array, row, fields_of, fields_taken}
use Rattle.fields.specs.Plan.{entry_of, Planned}
use Rattle.plans.specs.Tied.{list_of, Kept, Tied, Known}
use Rattle.plans.specs.Writing.{group_at}
use Rattle.plans.proofs.Lists.{read_back}
use Rattle.plans.proofs.Referred.{row_once}
use Rattle.plans.proofs.Fields.{plan_append, planned, planned_taken}
use Rattle.rows.specs.Pass.{pass_list, PassAt, Room, TiedSome}
use Rattle.rows.proofs.Stores.{take_least}

module _ (d s z e : List ℕ) (tied : Tied d s z e) where
  pub some_sizes : TiedSome d s e
  some_sizes = record { sizes = z; tied = tied }

  module _ (g : ℕ) (k : PassAt d g) where
    -- a list that is not too long, as that of each described id
    pub enough_room : (size : ℕ) → length (fields_of k.to) ≤ size → Room d e g size
    unfolding pass_list group_at
    enough_room size h m = rw k.known (go k.to (tied.each (get_or d g 0) k.to k.known) h)
      where
        go : (D : Described) → Kept d s z e (get_or d g 0) D → length (fields_of D) ≤ size → length (fields_taken (get_or d (g + 1) 0) D) ≤ size
        go (array f xs) w l = absurd (omega (arith, w.marked))
        go (row l) w l' = rw (row_once (get_or d (g + 1) 0) l) l'

    pub pass_planned : Planned (map entry_of (pass_list d g)) (pass_list d g)
    unfolding pass_list group_at
    pass_planned = planned_taken d s z e tied (get_or d g 0) (get_or d (g + 1) 0) k.to k.known

    pub rows_planned : (id : ℕ) → Known d id → Planned (map entry_of (list_of d id ++ pass_list d g)) (list_of d id ++ pass_list d g)
    unfolding pass_list group_at
    rows_planned id w =
        plan_append (list_of d id) (pass_list d g) (planned d s z e tied id w) (planned_taken d s z e tied (get_or d g 0) (get_or d (g + 1) 0) k.to k.known)

-- the numbers are the first of what `write` leaves, as many as there is room for
pub first_rows : (plan plan' : List ℕ) (l : List Field) → plan' ≡ sets plan 0 (take (length plan) (map entry_of l))
    → take (length l) plan' ≡ take (length plan) (map entry_of l)
first_rows plan plan' l u =
    let v : List ℕ = take (length plan) (map entry_of l) in
    let n : length v ≡ min (length plan) (length l) = length-take (length plan) (map entry_of l) ∙ rw (length-map l entry_of) in
    let e : min (length plan') (length l) ≡ length v = rw (u, length-sets plan 0 v) (sym n) in
    sym (take_least plan' (length l))
    ∙ ap (λ (m : ℕ). take m plan') e
    ∙ ap (take (length v)) u
    ∙ read_back plan v 0 (omega arith)
