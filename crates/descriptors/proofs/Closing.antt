-- A row that ends: the list that its triplets make, where it is kept, and the tables with it.
-- Assumes nothing.
use mathlib.Core.Path.{◌≡◌, refl, sym, ap, ◌∙◌, subst}
use Prim.Native.Nat.{ℕ, zero, suc, ◌+◌, ◌-◌, ◌/◌, ◌%◌, ◌≤◌, ◌<◌}
use native.Mathlib.Omega.{arith}
use mathlib.Core.List.{List, [], ◌∷◌, append-nil}
use mathlib.Core.Option.{none, some}
use mathlib.Core.Option as defined_option
use mathlib.Core.Bool.{Bool, true, not, true≢false}
use Rattle.std.specs.Prelude.{Option, Some, None, MatchOption, is_some}
use Rattle.tables.specs.Lists.{Lists}
use lib.ListN.{length, get_or, set, drop}
use lib.Seq.{get_or-set_same}
use Rattle.fdoca.specs.Basics.{lookup}
use Rattle.fdoca.specs.Triplet.{Kind, rlo, gda, Group}
use Rattle.fdoca.specs.Item.{Field}
use Rattle.fdoca.specs.Unfolding.{Described, array, row, group_fields, add_fields, Layouts, closed, close_row}
use Rattle.fdoca.specs.Between.{entry}
use Rattle.plans.specs.Tied.{groups_in, kind_at, groups_at, Groups, Takes, all, Makes, of_row}
use Rattle.sdas.specs.Tables.{Entered}
use Rattle.descriptors.specs.declared.Row.{Row}
use Rattle.descriptors.specs.declared.Step.{Step}
use Rattle.descriptors.specs.Holds.{RefersIn, RowIn, KeptIn, Tables, EndsAt, MakesSame, RowSoFar, row_of, Current, Last, Holds, Held, ClosedRow}
use Rattle.descriptors.proofs.Rows.{three, ends_none, ends_all}
use Rattle.descriptors.proofs.Grow.{grows, row_up, tables_put}

-- a row at hand that ends at p
pub ended : (d s : List ℕ) (ds : List (ℕ × Described)) (p at : ℕ) (l : List Field) → EndsAt d p → RowSoFar d s ds p at l → RowIn d s ds at l
ended d s ds p at l h r =
    let e : groups_at d at ≡ r.groups = r.all ∙ rw (ends_none d p h) (append-nil r.groups) in
    record { head = r.head; fields = r.fields ∙ ap (add_fields (kind_at d at) ds []) (sym e); groups = r.rest (ends_all (RefersIn (kind_at d at) s ds at) d p h) }

-- what a look-up told that gave nothing
pub none_there : {P : Type 0} (Q : ℕ → Type 0) (o : Option ℕ) (b : Bool) → MatchOption o P Q → is_some o ≡ not b → b ≡ true → P
none_there Q None b m i t = m
none_there Q (Some v) b m i t = absurd (true≢false (i ∙ ap not t))

-- another row once, at its own place
module _ (d : List ℕ) (T : Lists) (at p i : ℕ) (size : p - at ≡ 6) (once : get_or d (at + 5) 0 ≡ 1) (ref : i ≡ get_or d (at + 3) 0)
    (unmarked : get_or T.entries i 0 ≡ 0) (long : 6 ≤ get_or d at 0) (below : at + get_or d at 0 ≤ p) where
  abbrev s : List ℕ
  s = T.starts

  -- no CPT continues it
  own : get_or d at 0 ≡ 6
  own = omega arith

  -- its only group
  g : Group
  g = record { ref = get_or d (at + 3) 0; byte1 = get_or d (at + 3 + 1) 0; byte2 = get_or d (at + 3 + 2) 0 }

  only_group : at + 6 ≤ length d → EndsAt d p → groups_at d at ≡ g ∷ []
  unfolding groups_at groups_in g
  only_group h k =
      let q : at + 3 + 3 ≡ p = omega arith in
      rw (own, three d (at + 3) (omega arith), q, ends_none d p k)

  only_refers : (P : Group → Type 0) → at + 6 ≤ length d → Groups P (get_or d at 0 - 3) (drop (at + 3) d) → P g
  unfolding Groups g
  only_refers P h k = (rw (own, three d (at + 3) (omega arith)) at k).0

  -- another row once: its list is the other's; a GDA refers to no row
  pub other_place : (v : ℕ) → v ≡ get_or s i 0 → p ≤ length d → MakesSame d T at p v
  unfolding g add_fields
  other_place v ev hp =
      record {
        same = λ ds l h t r.
            let w : RefersIn (kind_at d at) s ds at g = only_refers (RefersIn (kind_at d at) s ds at) (omega arith) r.groups in
            go ds l h t r w.back w.to (kind_at d at) refl w.known w.makes;
      }
    where
      go : (ds : List (ℕ × Described)) (l : List Field) → EndsAt d p → Tables d s T.sizes T.entries ds p → RowIn d s ds at l → get_or s (get_or d (at + 3) 0) 0 < at
          → (D : Described) (k : Kind) → kind_at d at ≡ k → lookup (get_or d (at + 3) 0) ds ≡ some D → Makes k g D → (v ≤ at) × RowIn d s ds v l
      go ds l h t r back (array f xs) k ek q m =
          let m : 0 < get_or T.entries (get_or d (at + 3) 0) 0 = (t.placed (get_or d (at + 3) 0) (array f xs) q).kept.marked in
          let n : get_or T.entries (get_or d (at + 3) 0) 0 ≡ 0 = rw ref at unmarked in
          absurd (let y : ⊥ = omega arith in y)
      go ds l h t r back (row l') rlo ek q (of_row m) =
          let x : RowIn d s ds (get_or s (get_or d (at + 3) 0) 0) l' = (t.placed (get_or d (at + 3) 0) (row l') q).kept.made in
          let ei : v ≡ get_or s (get_or d (at + 3) 0) 0 = ev ∙ ap (λ n. get_or s n 0) ref in
          let f : at + 3 + 2 ≡ at + 5 = omega arith in
          let c : group_fields rlo ds g ≡ l' = rw (q, all_taken (get_or d (at + 3 + 1) 0) m, f, once) (append-nil l') in
          let el : l ≡ l' = r.fields ∙ ap (add_fields (kind_at d at) ds []) (only_group (omega arith) h) ∙ rw ek c in
          rw (ei, el) (omega arith, x)
        where
          all_taken : (k : ℕ) → Takes k (row l') → k ≡ 0
          all_taken zero all = refl
          all_taken (suc _) x5 = elim x5 [ ]
      go ds l h t r back (row l') gda ek q m = elim m [ ]

-- the size of a row
row_size : (n : ℕ) → n ≤ 4096 → (n % 65536 ≡ n) × (n / 65536 ≡ 0)
row_size n h = (omega arith, omega arith)

-- The tables with the row of the step before, which ends at p, or as they were where there is none.
module _ (d : List ℕ) (T : Lists) (p : ℕ) (x : Option Step) where
  pub close_row_lem : (T' : Lists) (q size : ℕ) (y : Step) (r : Row) → x ≡ Some y → y.row ≡ Some r → length d ≤ 4096 → MakesSame d T r.at p q
      → T'.starts ≡ set T.starts y.id q → T'.sizes ≡ set T.sizes y.id size → size ≡ y.count → T'.entries ≡ set T.entries y.id 0 → ClosedRow d T T' p x
  close_row_lem T' q size y r ex er small m es ez en ee =
      record {
        tables = λ u h k. rw (es, ez, ee) (go u h k u.current (subst (λ v. Current d T.starts u.described p v u.current) (ap row_of ex ∙ er) h.current)
            (subst (λ v. Last v (closed u)) ex h.last));
      }
    where
      go : (u : Layouts) → Holds d T p x u → EndsAt d p → (o : defined_option.Option (ℕ × List Field × Kind)) → Current d T.starts u.described p (Some r) o
          → Last (Some y) (close_row u.described o) → Tables d (set T.starts y.id q) (set T.sizes y.id size) (set T.entries y.id 0) (close_row u.described o) p
      go u h k none c l = absurd c
      go u h k (some v) c l =
          let n : size ≡ length v.1 = en ∙ l.counted in
          let b : RowIn d T.starts u.described r.at v.1 = ended d T.starts u.described p r.at v.1 k c.so_far in
          let w = m.same u.described v.1 k h.tables b in
          let f : y.id < 256 = l.id_fits in
          let lt : q < p = omega (arith, w.0, c.so_far.long, c.so_far.before) in
          let big : size ≤ 4096 = omega (arith, l.small) in
          let sz = row_size size big in
          let g : lookup y.id u.described ≡ none = rw l.same_id c.free in
          let e : Entered q size 0 (entry (row v.1)) = record { here = λ v. omega (arith, h.there); count = sz.0 ∙ n; lower = sz.1; positive = tt; coded = refl } in
          let j : KeptIn d (set T.starts y.id q) (set T.sizes y.id size) (set T.entries y.id 0) ((y.id, row v.1) ∷ u.described) y.id (row v.1) =
          record {
            unmarked = get_or-set_same T.entries y.id 0 0 (omega (arith, h.tables.sizes.2));
            made = rw (get_or-set_same T.starts y.id q 0 (omega (arith, h.tables.sizes.0)))
                (row_up T.starts (set T.starts y.id q) u.described ((y.id, row v.1) ∷ u.described) (grows d T.starts T.sizes T.entries u.described p h.tables y.id q size 0 (row v.1) g f) d q v.1 w.1);
          } in
          subst (λ i. Tables d (set T.starts y.id q) (set T.sizes y.id size) (set T.entries y.id 0) ((i, row v.1) ∷ u.described) p) l.same_id
          (tables_put d T.starts T.sizes T.entries u.described p h.tables y.id q size 0 (row v.1) g f p (omega arith) lt e j)

  -- where the row of the step before stands
  row_fits : (r : Row) → Held d T p x → row_of x ≡ Some r → (6 ≤ get_or d r.at 0) × (r.at + get_or d r.at 0 ≤ p)
  row_fits r h e = go h.0.current (subst (λ v. Current d T.starts h.0.described p v h.0.current) e h.1.current)
    where
      go : (o : defined_option.Option (ℕ × List Field × Kind)) → Current d T.starts h.0.described p (Some r) o → (6 ≤ get_or d r.at 0) × (r.at + get_or d r.at 0 ≤ p)
      go none c = absurd c
      go (some v) c = (c.so_far.long, c.so_far.before)

  module _ (y : Step) (r : Row) (h : Held d T p x) (ex : x ≡ Some y) (er : y.row ≡ Some r) where
    pub row_long : 6 ≤ get_or d r.at 0
    row_long = (row_fits r h (ap row_of ex ∙ er)).0

    pub row_before : r.at + get_or d r.at 0 ≤ p
    row_before = (row_fits r h (ap row_of ex ∙ er)).1

  pub held_small : Held d T p x → length d ≤ 4096 → p ≤ 4096
  held_small h k = omega (arith, h.1.there)
