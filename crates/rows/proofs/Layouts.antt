-- Whether every field of a layout is an X'01' with F 0: by the entry of an SDA or of a column, and group by group of a row.
-- Assumes nothing.
use mathlib.Core.Path.{◌≡◌, refl, sym, ap, ◌∙◌, subst}
use mathlib.Core.Bool.{Bool, true, false, not, ◌&&◌, and-true, and_self, and_assoc}
use mathlib.Core.List.{List, [], ◌∷◌, ◌++◌}
use mathlib.Core.Option.{some}
use Prim.Native.Nat.{ℕ, zero, suc, ◌+◌, ◌*◌, ◌<◌}
use native.Mathlib.Nat.{mul-zero, mul-one, mul-pos}
use native.Mathlib.Omega.{arith}
use borrow.Author.Tests.{eq-eqb, not-true, not-false}
use lib.Dec.{eqb}
use lib.ListN.{length, get_or, replicate}
use Rattle.fdoca.specs.Basics.{lookup, product, repeat}
use Rattle.fdoca.specs.Triplet.{Kind, rlo, gda, Group}
use Rattle.fdoca.specs.Item.{Field, field_length}
use Rattle.fdoca.specs.Unfolding.{Described, array, row, fields_taken, column, endless}
use Rattle.fields.specs.Plan.{entry_of, Proper}
use Rattle.fields.specs.Replaced.{Replaced}
use Rattle.fields.proofs.Parts.{entry_length, entry_code}
use Rattle.fields.proofs.Replacing.{column_proper}
use Rattle.plans.specs.Tied.{described_by, kind_of, groups_at, row_list, Takes, all, some_of, Makes, of_column, Refers, RowAt, SdaKept, Kept}
use Rattle.plans.specs.Writing.{group_at, group_list, RefersRow}
use Rattle.plans.proofs.Lists.{repeat_replicate}
use Rattle.plans.proofs.Referred.{row_fields, kind_array, kind_row, kinds_differ, row_refers, none_list}
use Rattle.plans.proofs.Rows.{Passed, none_passed, refers, rest, split, one_passed, all_passed}
use Rattle.rows.specs.Pass.{layout_list, PassAt, TiedSome, no_data}

-- ---- lists

endless_append : (l m : List Field) → endless (l ++ m) ≡ (endless l && endless m)
endless_append [] m = refl
endless_append (f ∷ l) m =
    let t : Bool = eqb f.code 0x01 && eqb (field_length f) 0 in
    ap (λ (b : Bool). t && b) (endless_append l m) ∙ sym (and_assoc t (endless l) (endless m))

endless_repeat : (n : ℕ) (l : List Field) → 0 < n → endless (repeat n l) ≡ endless l
endless_repeat zero l h = absurd (omega arith)
endless_repeat (suc zero) l h = endless_append l [] ∙ and-true (endless l)
endless_repeat (suc (suc n)) l h =
    endless_append l (repeat (suc n) l) ∙ ap (λ (b : Bool). endless l && b) (endless_repeat (suc n) l (omega arith)) ∙ and_self (endless l)

-- ---- entries

by_entry : (f : Field) → Proper f → no_data (entry_of f) ≡ endless (f ∷ [])
unfolding no_data
by_entry f h = rw (entry_code f h, entry_length f h) (sym (and-true (eqb f.code 0x01 && eqb (field_length f) 0)))

by_entries : (n : ℕ) (f : Field) → Proper f → 0 < n → no_data (entry_of f) ≡ endless (replicate n f)
by_entries n f h k =
    by_entry f h ∙ sym (endless_repeat n (replicate 1 f) k) ∙ ap endless (repeat_replicate n 1 f ∙ ap (λ (m : ℕ). replicate m f) (mul-one n))

some_lower : (x k : ℕ) → 0 < x * k → 0 < k
some_lower x zero h = absurd (omega (arith, mul-zero x))
some_lower x (suc k) h = omega arith

by_sda : {z e : List ℕ} {i : ℕ} (t : ℕ) (f : Field) (xs : List ℕ) → SdaKept z e i f xs → Takes t (array f xs) → no_data (get_or e i 0) ≡ endless (fields_taken t (array f xs))
by_sda zero f xs k all = ap no_data k.entry ∙ by_entries (product xs) f k.proper k.some_item
by_sda (suc t) f (x ∷ xs) k some_of =
    ap no_data k.entry ∙ by_entries (suc t * product xs) f k.proper (mul-pos (omega arith) (some_lower x (product xs) k.some_item))
by_sda {z = z} {e = e} {i = i} (suc t) f [] k x3 = elim x3 [ ]

-- ---- `endless_layout`

module _ (d s e : List ℕ) (g : Group) (tied : TiedSome d s e) (k : RefersRow d g) where
  module _ (m : get_or e g.ref 0 ≡ 0) (p : ℕ) (ep : (p ≡ get_or s g.ref 0) × (p < 65536)) where
    row_layout : (layout_list d g ≡ row_list d p) × RowAt d s p (row_list d p)
    row_layout = rw ep.0 (row_fields d s tied.sizes e g.ref g.byte1 tied.tied k.to k.known m)

    pub layout_made : RowAt d s p (row_list d p)
    layout_made = row_layout.1

    pub by_row : (r : Bool) → r ≡ endless (row_list d p) → r ≡ endless (layout_list d g)
    by_row r u = u ∙ ap endless (sym row_layout.0)

  pub by_array : (x : ℕ) → (x ≡ get_or e g.ref 0) × (0 < x) → (r : Bool) → r ≡ no_data x → r ≡ endless (layout_list d g)
  by_array x m r u = u ∙ rw (m.0, k.known) (go k.to k.takes (tied.tied.each g.ref k.to k.known))
    where
      go : (D : Described) → Takes g.byte1 D → Kept d s tied.sizes e g.ref D → no_data (get_or e g.ref 0) ≡ endless (fields_taken g.byte1 D)
      go (array f xs) t h = by_sda g.byte1 f xs h t
      go (row l) t h = absurd (omega (arith, h.unmarked, m))

  pub row_below : (t p : ℕ) → (p ≡ get_or s g.ref 0) × (p < 65536) → get_or s g.ref 0 + get_or s g.ref 0 + get_or s g.ref 0 + 1 ≡ t → p + p + p < t
  row_below t p ep u = omega arith

-- ---- `endless`

pub pass_refers : (d : List ℕ) (g : ℕ) → PassAt d g → RefersRow d (group_at d g)
pass_refers d g k = record { to = k.to; known = k.known; takes = k.takes }

-- ---- `endless_group`

module _ (d s e : List ℕ) (q head : ℕ) (g : Group) (tied : TiedSome d s e) (k : Refers (kind_of head) d s q g) where
  pub by_column : head ≡ 0x75 → (own x : ℕ) → (own ≡ get_or e g.ref 0) × (0 < own) → Replaced own g.byte1 g.byte2 x
      → (r : Bool) → r ≡ no_data x → r ≡ endless (group_list d (kind_of head) g)
  unfolding group_list
  by_column h own x eo w r u = u ∙ rw (kind_array head h) (go (kind_of head) (kind_array head h) k.to k.known k.makes)
    where
      a : ℕ
      a = g.byte1

      b : ℕ
      b = g.byte2

      go : (m : Kind) → m ≡ gda → (D : Described) → lookup g.ref (described_by d) ≡ some D → Makes m g D → no_data x ≡ endless (group_list d gda g)
      go gda t (array f []) o (of_column good) =
          let y = tied.tied.each g.ref (array f []) o in
          let v : x ≡ entry_of (column a b f) = w.same f y.proper y.typed (eo.0 ∙ y.entry) in
          rw (v, o) (by_entry (column a b f) (column_proper f a b y.proper y.typed good))
      go gda t (array f (_ ∷ _)) o m = elim m [ ]
      go gda t (row _) o m = elim m [ ]
      go rlo t D o m = kinds_differ t

  module _ (h : head ≡ 0x75 → ⊥) where
    pub by_none : (n : ℕ) → n ≡ g.byte2 → n ≡ 0 → eqb n 0 ≡ endless (group_list d (kind_of head) g)
    by_none n en z = eq-eqb n 0 z ∙ ap endless (sym (none_list d s tied.sizes e q 0 head g tied.tied k h n en z))

    pub layout_here : RefersRow d g
    layout_here = row_refers d s q head g k h

    pub by_layout : (g.byte2 ≡ 0 → ⊥) → (r : Bool) → r ≡ endless (layout_list d g) → r ≡ endless (group_list d (kind_of head) g)
    unfolding group_list
    by_layout z r u = u ∙ rw (kind_row head h) (sym (endless_repeat g.byte2 (layout_list d g) (omega arith)))

pub layout_below : (q t : ℕ) → q + q + q + 2 ≡ t → q + q + q + 1 < t
layout_below q t e = omega arith

-- ---- `endless_row`: the fields of the groups passed are such

pub record Plain (d s : List ℕ) (p head : ℕ) (left : List Group) : Type 0 where
  pub done : List Field
  pub passed : Passed d s p head left done
  pub such : endless done ≡ true

module _ (d s : List ℕ) (p head : ℕ) where
  pub begun : head ≡ get_or d (p + 1) 0 → (left : List Group) → left ≡ groups_at d p → RowAt d s p (row_list d p) → Plain d s p head left
  begun e left u r = record { done = []; passed = none_passed d s p head e left u r; such = refl }

  pub plain_at : {left next : List Group} → left ≡ next → Plain d s p head left → Plain d s p head next
  plain_at e w = subst (Plain d s p head) e w

  -- at a group
  module _ (g : Group) (left : List Group) (w : Plain d s p head (g ∷ left)) where
    pub refers_here : Refers (kind_of head) d s (length d) g
    refers_here = refers d s p head g left w.done w.passed

    pub group_below : (t : ℕ) → p + p + p ≡ t → get_or s g.ref 0 + get_or s g.ref 0 + get_or s g.ref 0 + 2 < t
    group_below t e = omega (arith, w.passed.fine.0.back)

    module _ (r : Bool) (u : r ≡ endless (group_list d (kind_of head) g)) where
      with_group : endless (w.done ++ group_list d (kind_of head) g) ≡ r
      with_group = endless_append w.done (group_list d (kind_of head) g) ∙ rw w.such (sym u)

      pub such_too : not r ≡ false → Plain d s p head left
      such_too t =
          record { done = w.done ++ group_list d (kind_of head) g; passed = one_passed d s p head g left w.done w.passed; such = with_group ∙ not-false r t }

      pub another : not r ≡ true → false ≡ endless (row_list d p)
      another t =
          let m : List Field = rest d s p head g left w.done w.passed in
          sym
          (ap endless (split d s p head g left w.done w.passed)
          ∙ endless_append (w.done ++ group_list d (kind_of head) g) m
          ∙ rw (with_group, not-true r t))

  -- behind the last
  pub all_such : Plain d s p head [] → true ≡ endless (row_list d p)
  all_such w = sym (ap endless (all_passed d s p head w.done w.passed) ∙ w.such)
