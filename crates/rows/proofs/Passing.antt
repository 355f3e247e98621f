-- One pass over a layout, by what the group's id describes; and the plan with what stands before it.
-- Assumes nothing.
use mathlib.Core.Path.{◌≡◌, sym, ap, ◌∙◌}
use mathlib.Core.List.{List, ◌++◌, map, map-append}
use Prim.Native.Nat.{ℕ, ◌+◌, ◌-◌, ◌≤◌, ◌<◌, min}
use native.Mathlib.Omega.{arith}
use lib.ListN.{length, get_or, take, replicate, length-map}
use lib.Seq.{sets, take_all}
use Rattle.fdoca.specs.Item.{Field}
use Rattle.fields.specs.Plan.{entry_of}
use Rattle.plans.specs.Tied.{row_list, RowAt, Tied}
use Rattle.plans.specs.Writing.{group_at, entries_taken}
use Rattle.plans.proofs.Referred.{sda_fields, row_fields, same_fields}
use Rattle.rows.specs.Pass.{pass_list, PassAt, Room}
use Rattle.rows.proofs.Stores.{take_replicate, joined}

-- ---- `pass`

module _ (d s z e : List ℕ) (g : ℕ) (tied : Tied d s z e) (k : PassAt d g) where
  -- the id is a row's
  module _ (m : get_or e (get_or d g 0) 0 ≡ 0) (p : ℕ) (ep : (p ≡ get_or s (get_or d g 0) 0) × (p < 65536)) where
    pub row_pass : (pass_list d g ≡ row_list d p) × RowAt d s p (row_list d p)
    unfolding pass_list group_at
    row_pass = rw ep.0 (row_fields d s z e (get_or d g 0) (get_or d (g + 1) 0) tied k.to k.known m)

    pub pass_made : RowAt d s p (row_list d p)
    pass_made = row_pass.1

    pub pass_room : (size : ℕ) → Room d e g size → 0 + length (row_list d p) ≤ size
    pass_room size h = let l : length (pass_list d g) ≤ size = h m in omega (arith, ap length row_pass.0)

    pub row_count : (r : ℕ) → r ≡ 0 + length (row_list d p) → r ≡ length (pass_list d g)
    row_count r u = omega (arith, ap length row_pass.0)

    pub row_small : (plan : List ℕ) (r : ℕ) → Room d e g (length plan) → length plan ≤ 4096 → r ≡ 0 + length (row_list d p) → r < 16777216
    row_small plan r h l u = omega (arith, h m, row_count r u)

    pub row_passed : (plan plan' : List ℕ) → Room d e g (length plan) → plan' ≡ sets plan 0 (map entry_of (row_list d p))
        → plan' ≡ sets plan 0 (take (length plan) (map entry_of (pass_list d g)))
    row_passed plan plan' h u =
        let l : length (pass_list d g) ≤ length plan = h m in
        u
        ∙ ap (λ (x : List Field). sets plan 0 (map entry_of x)) (sym row_pass.0)
        ∙ ap (sets plan 0) (sym (take_all (length plan) (map entry_of (pass_list d g)) (omega (arith, length-map (pass_list d g) entry_of))))

  -- the id is an SDA's
  module _ (marked : 0 < get_or e (get_or d g 0) 0) (n : ℕ) (c : (n ≡ entries_taken (get_or z (get_or d g 0) 0) (get_or d (g + 1) 0)) × (n < 16777216)) where
    sda_pass : (map entry_of (pass_list d g) ≡ replicate n (get_or e (get_or d g 0) 0)) × (length (pass_list d g) ≡ n)
    unfolding pass_list group_at
    sda_pass =
        let w = sda_fields d s z e (get_or d g 0) (get_or d (g + 1) 0) tied k.to k.known k.takes (λ y. omega arith) in
        same_fields (pass_list d g) n (get_or e (get_or d g 0) 0) w.0 (w.1 ∙ rw c.0) w.2

    pub sda_count : n ≡ length (pass_list d g)
    sda_count = sym sda_pass.1

    pub sda_passed : (plan plan' : List ℕ) (x q : ℕ) → x ≡ get_or e (get_or d g 0) 0 → q ≡ min n (length plan) → plan' ≡ sets plan 0 (replicate q x)
        → plan' ≡ sets plan 0 (take (length plan) (map entry_of (pass_list d g)))
    sda_passed plan plan' x q ex eq u = u ∙ rw (eq, ex, sda_pass.0, take_replicate n (length plan) (get_or e (get_or d g 0) 0))

-- ---- `write`

module _ (plan : List ℕ) (l m : List Field) where
  module _ (before : ℕ) (e : before ≡ length l) (room : before ≤ length plan) where
    pub moved_behind : (plan₁ plan₂ plan₃ : List ℕ) (n q : ℕ) → plan₁ ≡ sets plan 0 (take (length plan) (map entry_of m)) → n ≡ length m
        → q ≡ min n (length plan₁ - before) → length plan₁ ≡ length plan → plan₂ ≡ sets plan₁ before (take q plan₁) → plan₃ ≡ sets plan₂ 0 (map entry_of l)
        → plan₃ ≡ sets plan 0 (take (length plan) (map entry_of (l ++ m)))
    moved_behind plan₁ plan₂ plan₃ n q e₁ en eq same e₂ e₃ =
        let a : length (map entry_of l) ≡ before = length-map l entry_of ∙ sym e in
        let eq' : q ≡ min (length (map entry_of m)) (length plan - length (map entry_of l)) = eq ∙ rw (en, same, a, length-map m entry_of) in
        joined plan (map entry_of l) (map entry_of m) (omega arith) plan₁ plan₂ plan₃ q e₁ eq' (e₂ ∙ rw a) e₃ ∙ rw (map-append entry_of l m)
