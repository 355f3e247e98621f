-- The tables with one more id: what was described before stays as it was.
-- Assumes nothing.
use Rattle.std.specs.Prelude.{if◌then◌else◌}
use mathlib.Core.Path.{◌≡◌, refl, sym, ap, ◌∙◌}
use Prim.Native.Nat.{ℕ, ◌+◌, ◌-◌, ◌≤◌, ◌<◌}
use native.Mathlib.Omega.{arith}
use mathlib.Core.Bool.{Bool, true, false}
use mathlib.Core.List.{List, [], ◌∷◌, ◌++◌}
use mathlib.Core.Option.{none, some}
use lib.Dec.{eqb}
use lib.ListN.{get_or, set, drop, length-set}
use lib.Seq.{get_or-set_same, get_or-set_other}
use borrow.Author.Tests.{ne_eqb, eqb-true, eqb-false}
use Rattle.fdoca.specs.Basics.{lookup}
use Rattle.fdoca.specs.Triplet.{Kind, Group}
use Rattle.fdoca.specs.Item.{Field}
use Rattle.fdoca.specs.Unfolding.{Described, array, row, group_fields, add_fields}
use Rattle.fdoca.specs.Between.{entry, entries}
use Rattle.plans.specs.Tied.{kind_at, groups_at}
use Rattle.sdas.specs.Tables.{KeptAs, Entered}
use Rattle.descriptors.specs.Holds.{RefersIn, RowIn, KeptIn, Placed, Tables}
use Rattle.descriptors.proofs.Rows.{AllGroups, groups_all, groups_map}

-- the list of groups that refer to described ids is the same where more are described
pub record Grows (s s' : List ℕ) (ds ds' : List (ℕ × Described)) : Type 0 where
  pub still : (i : ℕ) (D : Described) → lookup i ds ≡ some D → (lookup i ds' ≡ some D) × (get_or s' i 0 ≡ get_or s i 0)

module _ (s s' : List ℕ) (ds ds' : List (ℕ × Described)) (up : Grows s s' ds ds') where
  pub refers_up : (kind : Kind) (p : ℕ) (g : Group) → RefersIn kind s ds p g → RefersIn kind s' ds' p g
  refers_up kind p g r =
      let w = up.still g.ref r.to r.known in
      record { to = r.to; known = w.0; back = rw w.1 r.back; id_fits = r.id_fits; makes = r.makes }

  pub fields_up : (kind : Kind) (p : ℕ) (l : List Field) (gs : List Group) → AllGroups (RefersIn kind s ds p) gs → add_fields kind ds l gs ≡ add_fields kind ds' l gs
  unfolding add_fields
  fields_up kind p l [] a = refl
  fields_up kind p l (g ∷ gs) a =
      let r = a.0 in
      let w = up.still g.ref r.to r.known in
      let e : group_fields kind ds g ≡ group_fields kind ds' g = rw (r.known, w.0) in
      rw e (fields_up kind p (l ++ group_fields kind ds' g) gs a.1)

  pub row_up : (d : List ℕ) (p : ℕ) (l : List Field) → RowIn d s ds p l → RowIn d s' ds' p l
  unfolding groups_at
  row_up d p l r =
      record {
        head = r.head;
        fields = r.fields ∙ fields_up (kind_at d p) p [] (groups_at d p) (groups_all (RefersIn (kind_at d p) s ds p) (get_or d p 0 - 3) (drop (p + 3) d) r.groups);
        groups = groups_map (λ g x. refers_up (kind_at d p) p g x) (get_or d p 0 - 3) (drop (p + 3) d) r.groups;
      }

-- another id than a new one
other : (ds : List (ℕ × Described)) (i j : ℕ) (E : Described) → lookup i ds ≡ some E → lookup j ds ≡ none → i ≡ j → ⊥
other ds i j E h k e =
    let q : some E ≡ none = sym h ∙ ap (λ x. lookup x ds) e ∙ k in
    let z : ◌≡◌ {A = ℕ} 0 1 = cc in
    omega arith

-- the tables with v, size and ent for the new id j, which D describes
module _ (d s z e : List ℕ) (ds : List (ℕ × Described)) (p : ℕ) (t : Tables d s z e ds p) (j v size ent : ℕ) (D : Described)
    (free : lookup j ds ≡ none) (fits : j < 256) where
  abbrev s' : List ℕ
  s' = set s j v

  abbrev z' : List ℕ
  z' = set z j size

  abbrev e' : List ℕ
  e' = set e j ent

  abbrev ds' : List (ℕ × Described)
  ds' = (j, D) ∷ ds

  pub grows : Grows s s' ds ds'
  grows =
      record {
        still = λ i E h.
            let n : i ≡ j → ⊥ = other ds i j E h free in
            let f : eqb i j ≡ false = ne_eqb i j n in
            (rw f h, get_or-set_other s j i v 0 n);
      }

  kept_up : (i : ℕ) (E : Described) → (i ≡ j → ⊥) → KeptIn d s z e ds i E → KeptIn d s' z' e' ds' i E
  kept_up i (array f xs) n k =
      let ee : get_or e' i 0 ≡ get_or e i 0 = get_or-set_other e j i ent 0 n in
      let ez : get_or z' i 0 ≡ get_or z i 0 = get_or-set_other z j i size 0 n in
      record { entry = ee ∙ k.entry; marked = rw ee k.marked; proper = k.proper; typed = k.typed; count = rw ez k.count; lower = rw ez k.lower; some_item = k.some_item }
  kept_up i (row l) n k =
      let ee : get_or e' i 0 ≡ get_or e i 0 = get_or-set_other e j i ent 0 n in
      let es : get_or s' i 0 ≡ get_or s i 0 = get_or-set_other s j i v 0 n in
      record { unmarked = ee ∙ k.unmarked; made = rw es (row_up s s' ds ds' grows d (get_or s i 0) l k.made) }

  pub tables_put : (q : ℕ) → p ≤ q → v < q → Entered v size ent (entry D) → KeptIn d s' z' e' ds' j D → Tables d s' z' e' ds' q
  tables_put q h l x k =
      record {
        agrees = λ i w. go_agrees i w (eqb i j) refl;
        placed = λ i E w. go_placed i E (eqb i j) refl w;
        sizes = (length-set s j v ∙ t.sizes.0, length-set z j size ∙ t.sizes.1, length-set e j ent ∙ t.sizes.2);
      }
    where
      same_s : get_or s' j 0 ≡ v
      same_s = get_or-set_same s j v 0 (omega (arith, t.sizes.0))

      same_z : get_or z' j 0 ≡ size
      same_z = get_or-set_same z j size 0 (omega (arith, t.sizes.1))

      same_e : get_or e' j 0 ≡ ent
      same_e = get_or-set_same e j ent 0 (omega (arith, t.sizes.2))

      go_agrees : (i : ℕ) → i < 256 → (b : Bool) → eqb i j ≡ b
          → KeptAs (get_or s' i 0) (get_or z' i 0) (get_or e' i 0) (if b then some (entry D) else lookup i (entries ds))
      go_agrees i w true f = let n : i ≡ j = eqb-true i j f in rw (n, same_s, same_z, same_e) x
      go_agrees i w false f =
          let n : i ≡ j → ⊥ = eqb-false i j f in
          rw (get_or-set_other s j i v 0 n, get_or-set_other z j i size 0 n, get_or-set_other e j i ent 0 n) (t.agrees i w)

      go_placed : (i : ℕ) (E : Described) (b : Bool) → eqb i j ≡ b → (if b then some D else lookup i ds) ≡ some E → Placed d s' z' e' ds' q i E
      go_placed i E true f w =
          let n : i ≡ j = eqb-true i j f in
          let m : D ≡ E = cc in
          rw (n, ← m) (record { kept = k; before = rw same_s l; id_fits = fits })
      go_placed i E false f w =
          let n : i ≡ j → ⊥ = eqb-false i j f in
          let r : Placed d s z e ds p i E = t.placed i E w in
          record { kept = kept_up i E n r.kept; before = rw (get_or-set_other s j i v 0 n) (omega (arith, r.before)); id_fits = r.id_fits }

-- the tables farther on
pub tables_later : (d s z e : List ℕ) (ds : List (ℕ × Described)) (p q : ℕ) → p ≤ q → Tables d s z e ds p → Tables d s z e ds q
tables_later d s z e ds p q h t =
    record {
      agrees = t.agrees;
      placed = λ i D w. let r : Placed d s z e ds p i D = t.placed i D w in record { kept = r.kept; before = omega (arith, r.before); id_fits = r.id_fits };
      sizes = t.sizes;
    }
