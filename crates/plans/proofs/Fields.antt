-- What `write` leaves is a plan: each number of it stands for a field of the list, and each field is proper.
-- Assumes nothing.
use Rattle.std.specs.Prelude.{if◌then◌else◌}
use mathlib.Core.Path.{◌≡◌}
use mathlib.Core.Bool.{Bool, true, false}
use mathlib.Core.List.{List, [], ◌∷◌, ◌++◌, map, map-append}
use mathlib.Core.Option.{some}
use Prim.Native.Nat.{ℕ, zero, suc, ◌+◌, ◌-◌, ◌*◌, ◌≤◌, ◌<◌}
use native.Mathlib.Omega.{arith}
use lib.Dec.{ltb, eqb}
use lib.ListN.{length, get_or, take, drop, replicate, length-map}
use lib.Seq.{sets}
use Rattle.fdoca.specs.Basics.{lookup, product, repeat}
use Rattle.fdoca.specs.Triplet.{Kind, rlo, gda, Group, taken, factor}
use Rattle.fdoca.specs.Item.{Field}
use Rattle.fdoca.specs.Unfolding.{Described, array, row, fields_taken, fields_referred, group_fields, add_fields}
use Rattle.fields.specs.Plan.{entry_of, Proper, Planned, empty, entry}
use Rattle.plans.specs.Tied.{described_by, list_of, groups_in, kind_at, groups_at, row_list, case_of, Groups, Makes, of_row, of_column, Refers, RowAt, Kept, Tied, Known}
use Rattle.fields.proofs.Replacing.{column_proper}
use Rattle.plans.proofs.Lists.{read_back}
use Rattle.plans.proofs.Rows.{adds_first}
use Rattle.plans.proofs.Referred.{row_once, row_itself}

abbrev pub Plan : List Field → Type 0
Plan l = Planned (map entry_of l) l

planned_append : {es es' : List ℕ} {fs fs' : List Field} → Planned es fs → Planned es' fs' → Planned (es ++ es') (fs ++ fs')
planned_append empty y = y
planned_append (entry p x) y = entry p (planned_append x y)

pub plan_append : (l m : List Field) → Plan l → Plan m → Plan (l ++ m)
plan_append l m x y = rw (map-append entry_of l m) (planned_append x y)

plan_repeat : (n : ℕ) (l : List Field) → Plan l → Plan (repeat n l)
plan_repeat zero l x = empty
plan_repeat (suc n) l x = plan_append l (repeat n l) x (plan_repeat n l x)

plan_replicate : (n : ℕ) (f : Field) → Proper f → Plan (replicate n f)
plan_replicate zero f p = empty
plan_replicate (suc n) f p = entry p (plan_replicate n f p)

plan_taken : (t : ℕ) (f : Field) (xs : List ℕ) → Proper f → Plan (fields_taken t (array f xs))
plan_taken zero f xs p = plan_replicate (product xs) f p
plan_taken (suc t) f [] p = entry p empty
plan_taken (suc t) f (x ∷ xs) p = plan_replicate (suc t * product xs) f p

module _ (kind : Kind) (ds : List (ℕ × Described)) (P : Group → Type 0) (each : (g : Group) → P g → Plan (group_fields kind ds g)) where
  plan_groups : (n : ℕ) (l : List ℕ) → Groups P n l → Plan (add_fields kind ds [] (groups_in n l))
  unfolding groups_in Groups add_fields
  plan_groups n [] r = empty
  plan_groups n (a ∷ []) r = empty
  plan_groups n (a ∷ b ∷ []) r = empty
  plan_groups n (a ∷ b ∷ c ∷ l) r = go (ltb 0 n) (eqb b 0x7F) r (plan_groups (n - 3) l) (plan_groups (a - 3) l)
    where
      go : (u v : Bool) → case_of u (P (record { ref = a; byte1 = b; byte2 = c }) × Groups P (n - 3) l) (case_of v (Groups P (a - 3) l) (Unit {0}))
          → (Groups P (n - 3) l → Plan (add_fields kind ds [] (groups_in (n - 3) l))) → (Groups P (a - 3) l → Plan (add_fields kind ds [] (groups_in (a - 3) l)))
          → Plan (add_fields kind ds [] (if u then record { ref = a; byte1 = b; byte2 = c } ∷ groups_in (n - 3) l else if v then groups_in (a - 3) l else []))
      go true v r x y = rw adds_first (plan_append _ _ (each _ r.0) (x r.1))
      go false true r x y = y r
      go false false r x y = empty

module _ (d s z e : List ℕ) (tied : Tied d s z e) where
  -- an id whose triplet stands before n
  plan_referred : (n : ℕ) → ((p : ℕ) → p < n → RowAt d s p (row_list d p) → Plan (row_list d p))
      → (i t : ℕ) (D : Described) → lookup i (described_by d) ≡ some D → get_or s i 0 < n → Plan (fields_referred t (lookup i (described_by d)))
  plan_referred n rows i t D o h = rw o (go D (tied.each i D o))
    where
      go : (D : Described) → Kept d s z e i D → Plan (fields_taken t D)
      go (array f xs) k = plan_taken t f xs k.proper
      go (row l) k = rw (row_once t l, k.made.fields) (rows (get_or s i 0) h (row_itself k.made))

  -- one group, of an RLO or a GDA
  plan_group : (kind : Kind) (n p : ℕ) → p ≤ n → ((p : ℕ) → p < n → RowAt d s p (row_list d p) → Plan (row_list d p))
      → (g : Group) → Refers kind d s p g → Plan (group_fields kind (described_by d) g)
  plan_group kind n p h rows g r = go kind r.to r.known r.makes
    where
      go : (kind : Kind) (D : Described) → lookup g.ref (described_by d) ≡ some D → Makes kind g D → Plan (group_fields kind (described_by d) g)
      go rlo D o (of_row t) = plan_repeat (factor g) _ (plan_referred n rows g.ref (taken g) D o (omega (arith, r.back)))
      go gda (array f []) o (of_column good) =
          let k = tied.each g.ref (array f []) o in
          rw o (entry (column_proper f g.byte1 g.byte2 k.proper k.typed good) empty)
      go gda (array f (_ ∷ _)) o x7 = elim x7 [ ]
      go gda (row _) o x5 = elim x5 [ ]

  -- rows before n: a row's groups refer to triplets before it
  plan_rows : (n p : ℕ) → p < n → RowAt d s p (row_list d p) → Plan (row_list d p)
  unfolding row_list groups_at
  plan_rows zero p h r = absurd (omega arith)
  plan_rows (suc n) p h r =
      plan_groups (kind_at d p) (described_by d) (Refers (kind_at d p) d s p) (λ g x. plan_group (kind_at d p) n p (omega arith) (plan_rows n) g x)
      (get_or d p 0 - 3) (drop (p + 3) d) r.groups

  pub planned_taken : (i t : ℕ) (D : Described) → lookup i (described_by d) ≡ some D → Plan (fields_referred t (lookup i (described_by d)))
  planned_taken i t D o = plan_referred (suc (get_or s i 0)) (plan_rows (suc (get_or s i 0))) i t D o (omega arith)

  pub planned : (i : ℕ) → Known d i → Planned (map entry_of (list_of d i)) (list_of d i)
  unfolding list_of
  planned i k = planned_taken i 0 k.what k.known

-- the numbers are the first of what `write` leaves
pub first_numbers : (plan : List ℕ) (l : List Field) → length l ≤ length plan → take (length l) (sets plan 0 (map entry_of l)) ≡ map entry_of l
first_numbers plan l h = rw (← length-map l entry_of) (read_back plan (map entry_of l) 0 (omega (arith, length-map l entry_of)))
