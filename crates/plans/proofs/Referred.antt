-- The list of one group, by what its id describes: `write_group` and `write` fill in the entry of an SDA, or go down to an RLO or a GDA; of a GDA's group
-- the entry of an SDA is written with its length replaced.
-- Assumes nothing.
use mathlib.Core.Path.{◌≡◌, refl, sym, ap, ◌∙◌}
use mathlib.Core.List.{List, [], ◌∷◌, ◌++◌, map, map-append}
use mathlib.Core.Option.{some}
use Prim.Native.Nat.{ℕ, zero, suc, ◌+◌, ◌-◌, ◌*◌, ◌%◌, ◌≤◌, ◌<◌}
use native.Mathlib.Omega.{arith}
use borrow.Author.Tests.{ne_eqb}
use lib.ListN.{length, get_or, set, take, drop, replicate, length-append, length-replicate, length-map}
use lib.Seq.{sets, length-sets}
use Rattle.fdoca.specs.Basics.{lookup, repeat}
use Rattle.fdoca.specs.FieldType.{type_of}
use Rattle.fdoca.specs.Triplet.{Kind, rlo, gda, Group}
use Rattle.fdoca.specs.Item.{Field}
use Rattle.fdoca.specs.Unfolding.{Described, array, row, fields_taken, fields_referred, column}
use Rattle.fields.specs.Plan.{entry_of, Proper}
use Rattle.fields.specs.Replaced.{Replaced}
use Rattle.plans.specs.Tied.{described_by, list_of, kind_of, row_list, Takes, all, some_of, Makes, of_row, of_column, Refers, RowAt, SdaKept, Kept, Tied, Known}
use Rattle.plans.specs.Writing.{group_list, RefersRow, entries_taken}
use Rattle.plans.proofs.Lists.{length_repeat, repeat_first, repeat_replicate, sets_append, read_back, map_repeat, map_replicate}

sda_once : {z e : List ℕ} {i : ℕ} (t : ℕ) (f : Field) (xs : List ℕ) → SdaKept z e i f xs → Takes t (array f xs)
    → fields_taken t (array f xs) ≡ replicate (entries_taken (get_or z i 0) t) f
unfolding entries_taken
sda_once zero f xs k all = ap (λ (n : ℕ). replicate n f) (sym k.count)
sda_once (suc t) f (x ∷ xs) k some_of = simp (ne_eqb (suc t) 0 (λ h. omega arith)) (ap (λ (n : ℕ). replicate (suc t * n) f) (sym k.lower))
sda_once {z = z} {e = e} {i = i} (suc t) f [] k x3 = elim x3 [ ]

pub row_once : (t : ℕ) (l : List Field) → fields_taken t (row l) ≡ l
row_once zero l = refl
row_once (suc t) l = refl

-- a row that makes a list makes the list of its bytes
pub row_itself : {d s : List ℕ} {p : ℕ} {l : List Field} → RowAt d s p l → RowAt d s p (row_list d p)
row_itself r = record { head = r.head; fields = refl; groups = r.groups }

module _ (d s z e : List ℕ) (i t : ℕ) (tied : Tied d s z e) where
  -- an entry other than 0 is an SDA's
  pub sda_fields : (D : Described) → lookup i (described_by d) ≡ some D → Takes t D → (get_or e i 0 ≡ 0 → ⊥)
      → (f : Field) × (fields_referred t (lookup i (described_by d)) ≡ replicate (entries_taken (get_or z i 0) t) f) × (entry_of f ≡ get_or e i 0)
  sda_fields D o h m = go D o h (tied.each i D o)
    where
      go : (D : Described) → lookup i (described_by d) ≡ some D → Takes t D → Kept d s z e i D
          → (f : Field) × (fields_referred t (lookup i (described_by d)) ≡ replicate (entries_taken (get_or z i 0) t) f) × (entry_of f ≡ get_or e i 0)
      go (array f xs) o h k = (f, ap (fields_referred t) o ∙ sda_once t f xs k h, sym k.entry)
      go (row l) o h k = absurd (m k.unmarked)

  -- the entry 0 is an RLO's or a GDA's
  pub row_fields : (D : Described) → lookup i (described_by d) ≡ some D → get_or e i 0 ≡ 0
      → (fields_referred t (lookup i (described_by d)) ≡ row_list d (get_or s i 0)) × RowAt d s (get_or s i 0) (row_list d (get_or s i 0))
  row_fields D o m = go D o (tied.each i D o)
    where
      go : (D : Described) → lookup i (described_by d) ≡ some D → Kept d s z e i D
          → (fields_referred t (lookup i (described_by d)) ≡ row_list d (get_or s i 0)) × RowAt d s (get_or s i 0) (row_list d (get_or s i 0))
      go (array f xs) o k = let h : 0 < get_or e i 0 = k.marked in absurd (omega arith)
      go (row l) o k = (ap (fields_referred t) o ∙ row_once t l ∙ k.made.fields, row_itself k.made)

-- one field over and over, in numbers
pub same_fields : (l : List Field) (n x : ℕ) (f : Field) → l ≡ replicate n f → entry_of f ≡ x → (map entry_of l ≡ replicate n x) × (length l ≡ n)
same_fields l n x f u v =
    (ap (map entry_of) u ∙ map_replicate entry_of n f ∙ ap (replicate n) v, ap length u ∙ length-replicate n f)

-- the entry that a table has is not 0
pub marked_is : {x y : ℕ} → (x ≡ y) × (0 < x) → 0 < y
marked_is h = omega arith

-- ---- `write_group`

-- the kind by the construct type
pub kind_array : (head : ℕ) → head ≡ 0x75 → kind_of head ≡ gda
unfolding kind_of
kind_array head h = rw h

pub kind_row : (head : ℕ) → (head ≡ 0x75 → ⊥) → kind_of head ≡ rlo
unfolding kind_of
kind_row head h = rw (ne_eqb head 0x75 h)

pub kinds_differ : {A : Type 0} → rlo ≡ gda → A
kinds_differ e = absurd (let z : ◌≡◌ {A = ℕ} 0 1 = cc in let w : ⊥ = omega arith in w)

-- a group of a GDA: it refers to an SDA without extents
record ColumnAt (d e : List ℕ) (g : Group) : Type 0 where
  field : Field
  known : lookup g.ref (described_by d) ≡ some (array field [])
  entry : get_or e g.ref 0 ≡ entry_of field
  marked : 0 < get_or e g.ref 0
  proper : Proper field
  typed : type_of field.code ≡ some field.type

module _ (d s z e : List ℕ) (q at head : ℕ) (g : Group) (tied : Tied d s z e) (k : Refers (kind_of head) d s q g) (h : head ≡ 0x75) where
  c : ColumnAt d e g
  c = go (kind_of head) (kind_array head h) k.to k.known k.makes
    where
      go : (m : Kind) → m ≡ gda → (D : Described) → lookup g.ref (described_by d) ≡ some D → Makes m g D → ColumnAt d e g
      go gda t (array f []) o (of_column good) =
          let w = tied.each g.ref (array f []) o in
          record { field = f; known = o; entry = w.entry; marked = w.marked; proper = w.proper; typed = w.typed }
      go gda t (array f (_ ∷ _)) o m = elim m [ ]
      go gda t (row _) o m = elim m [ ]
      go rlo t D o m = kinds_differ t

  pub column_marked : 0 < get_or e g.ref 0
  column_marked = c.marked

  one_column : group_list d (kind_of head) g ≡ column g.byte1 g.byte2 c.field ∷ []
  unfolding group_list
  one_column = rw (kind_array head h, c.known)

  pub column_place : at + 1 ≡ at + length (group_list d (kind_of head) g)
  column_place = rw one_column

  pub column_room : (size : ℕ) → at + length (group_list d (kind_of head) g) ≤ size → at < size
  column_room size l = omega (arith, ap length one_column)

  pub column_written : (plan : List ℕ) (own r : ℕ) → (own ≡ get_or e g.ref 0) × (0 < own) → Replaced own g.byte1 g.byte2 r
      → set plan at r ≡ sets plan at (map entry_of (group_list d (kind_of head) g))
  column_written plan own r o k =
      let u : own ≡ entry_of c.field = o.0 ∙ c.entry in
      let w : r ≡ entry_of (column g.byte1 g.byte2 c.field) = k.same c.field c.proper c.typed u in
      rw (one_column, w)

-- a group of an RLO
pub row_refers : (d s : List ℕ) (q head : ℕ) (g : Group) → Refers (kind_of head) d s q g → (head ≡ 0x75 → ⊥) → RefersRow d g
row_refers d s q head g k h = go (kind_of head) (kind_row head h) k.makes
  where
    go : (m : Kind) → m ≡ rlo → Makes m g k.to → RefersRow d g
    go rlo t (of_row x) = record { to = k.to; known = k.known; takes = x }
    go gda t x = kinds_differ (sym t)

module _ (d s z e : List ℕ) (q at head : ℕ) (g : Group) (tied : Tied d s z e) (k : Refers (kind_of head) d s q g) (not-array : head ≡ 0x75 → ⊥) where
  r : RefersRow d g
  r = row_refers d s q head g k not-array

  is_row : kind_of head ≡ rlo
  is_row = kind_row head not-array

  module _ (n : ℕ) (en : n ≡ g.byte2) where
    -- no repetition
    module _ (f : n ≡ 0) where
      pub none_list : group_list d (kind_of head) g ≡ []
      unfolding group_list
      none_list = rw (is_row, sym en ∙ f)

      pub none_place : at ≡ at + length (group_list d (kind_of head) g)
      none_place = rw none_list (omega arith)

      pub none_written : (plan : List ℕ) → plan ≡ sets plan at (map entry_of (group_list d (kind_of head) g))
      none_written plan = rw none_list

    module _ (marked : 0 < get_or e g.ref 0) (m : ℕ) (c : (m ≡ entries_taken (get_or z g.ref 0) g.byte1) × (m < 16777216)) where
      sda_list : (map entry_of (group_list d (kind_of head) g) ≡ replicate (n * m) (get_or e g.ref 0)) × (length (group_list d (kind_of head) g) ≡ n * m)
      unfolding group_list
      sda_list =
          let w = sda_fields d s z e g.ref g.byte1 tied r.to r.known r.takes (λ y. omega arith) in
          let once : fields_referred g.byte1 (lookup g.ref (described_by d)) ≡ replicate m w.0 =
          w.1 ∙ ap (λ (k : ℕ). replicate k w.0) (sym c.0) in
          same_fields (group_list d (kind_of head) g) (n * m) (get_or e g.ref 0) w.0
          (rw is_row (ap (repeat g.byte2) once) ∙ ap (λ (k : ℕ). repeat k (replicate m w.0)) (sym en) ∙ repeat_replicate n m w.0) w.2

      pub sda_room : (size : ℕ) → at + length (group_list d (kind_of head) g) ≤ size → at + n * m ≤ size
      sda_room size l = omega (arith, sda_list.1)

      pub sda_place : (b : ℕ) → b ≡ at + n * m → b ≡ at + length (group_list d (kind_of head) g)
      sda_place b u = omega (arith, sda_list.1)

      pub sda_written : (plan plan' : List ℕ) (x : ℕ) → x ≡ get_or e g.ref 0 → plan' ≡ sets plan at (replicate (n * m) x)
          → plan' ≡ sets plan at (map entry_of (group_list d (kind_of head) g))
      sda_written plan plan' x h u = u ∙ ap (λ (y : ℕ). sets plan at (replicate (n * m) y)) h ∙ ap (sets plan at) (sym sda_list.0)

    module _ (f : n ≡ 0 → ⊥) (m : get_or e g.ref 0 ≡ 0) (p : ℕ) (ep : (p ≡ get_or s g.ref 0) × (p < 65536)) where
      abbrev once : List Field
      once = row_list d p

      pub row_made : RowAt d s p once
      row_made = rw ep.0 ((row_fields d s z e g.ref g.byte1 tied r.to r.known m).1)

      row_list_lem : group_list d (kind_of head) g ≡ once ++ repeat (n - 1) once
      unfolding group_list
      row_list_lem =
          rw is_row (ap (repeat g.byte2) (row_fields d s z e g.ref g.byte1 tied r.to r.known m).0)
          ∙ ap (λ (k : ℕ). repeat k (row_list d (get_or s g.ref 0))) (sym en)
          ∙ ap (λ (k : ℕ). repeat n (row_list d k)) (sym ep.0)
          ∙ repeat_first n once (omega arith)

      row_length : length (group_list d (kind_of head) g) ≡ length once + (n - 1) * length once
      row_length = ap length row_list_lem ∙ length-append once _ ∙ ap (λ (k : ℕ). length once + k) (length_repeat (n - 1) once)

      pub row_room : (size : ℕ) → at + length (group_list d (kind_of head) g) ≤ size → at + length once ≤ size
      row_room size h = omega (arith, row_length)

      module _ (b : ℕ) (u : b ≡ at + length once) where
        between_once : b - at ≡ length once
        between_once = omega arith

        pub copies_room : (plan plan₁ : List ℕ) → at + length (group_list d (kind_of head) g) ≤ length plan → plan₁ ≡ sets plan at (map entry_of once)
            → b + (n - 1) * (b - at) ≤ length plan₁
        copies_room plan plan₁ h v = rw (v, length-sets, between_once) (omega (arith, row_length))

        pub row_place : (b' : ℕ) → b' ≡ b + (n - 1) * (b - at) → b' ≡ at + length (group_list d (kind_of head) g)
        row_place b' u' = rw between_once at u' ∙ omega (arith, row_length)

        pub row_written : (plan plan₁ plan₂ : List ℕ) → at + length (group_list d (kind_of head) g) ≤ length plan → plan₁ ≡ sets plan at (map entry_of once)
            → plan₂ ≡ sets plan₁ b (repeat (n - 1) (take (b - at) (drop at plan₁))) → plan₂ ≡ sets plan at (map entry_of (group_list d (kind_of head) g))
        row_written plan plan₁ plan₂ h v v' =
            let l : List ℕ = map entry_of once in
            let e : length l ≡ length once = length-map once entry_of in
            let back : take (b - at) (drop at plan₁) ≡ l = rw (v, between_once, ← e) (read_back plan l at (omega (arith, row_length))) in
            v'
            ∙ ap (λ (x : List ℕ). sets plan₁ b (repeat (n - 1) x)) back
            ∙ ap (λ (x : List ℕ). sets x b (repeat (n - 1) l)) v
            ∙ ap (λ (x : ℕ). sets (sets plan at l) x (repeat (n - 1) l)) (u ∙ ap (λ (x : ℕ). at + x) (sym e))
            ∙ sets_append plan l (repeat (n - 1) l) at
            ∙ ap (λ (x : List ℕ). sets plan at (l ++ x)) (sym (map_repeat entry_of (n - 1) once))
            ∙ ap (sets plan at) (sym (map-append entry_of once (repeat (n - 1) once)))
            ∙ ap (λ (x : List Field). sets plan at (map entry_of x)) (sym row_list_lem)

-- ---- `write`

module _ (d s z e : List ℕ) (i : ℕ) (tied : Tied d s z e) (k : Known d i) where
  module _ (marked : 0 < get_or e i 0) (n : ℕ) (c : (n ≡ get_or z i 0 % 65536) × (n < 65536)) where
    all_list : (map entry_of (list_of d i) ≡ replicate n (get_or e i 0)) × (length (list_of d i) ≡ n)
    unfolding list_of entries_taken
    all_list =
        let w = sda_fields d s z e i 0 tied k.what k.known all (λ y. omega arith) in
        same_fields (list_of d i) n (get_or e i 0) w.0 (w.1 ∙ ap (λ (y : ℕ). replicate y w.0) (sym c.0)) w.2

    pub all_room : (size : ℕ) → length (list_of d i) ≤ size → 0 + n ≤ size
    all_room size h = omega (arith, all_list.1)

    pub all_written : (plan plan' : List ℕ) (x : ℕ) → x ≡ get_or e i 0 → plan' ≡ sets plan 0 (replicate n x) → plan' ≡ sets plan 0 (map entry_of (list_of d i))
    all_written plan plan' x h u = u ∙ ap (λ (y : ℕ). sets plan 0 (replicate n y)) h ∙ ap (sets plan 0) (sym all_list.0)

  module _ (m : get_or e i 0 ≡ 0) (p : ℕ) (ep : (p ≡ get_or s i 0) × (p < 65536)) where
    pub top_made : RowAt d s p (row_list d p)
    top_made = rw ep.0 ((row_fields d s z e i 0 tied k.what k.known m).1)

    pub top_list : list_of d i ≡ row_list d p
    unfolding list_of
    top_list = rw ep.0 ((row_fields d s z e i 0 tied k.what k.known m).0)

    pub top_room : (size : ℕ) → length (list_of d i) ≤ size → 0 + length (row_list d p) ≤ size
    top_room size h = omega (arith, ap length top_list)

    pub top_written : (plan plan' : List ℕ) → plan' ≡ sets plan 0 (map entry_of (row_list d p)) → plan' ≡ sets plan 0 (map entry_of (list_of d i))
    top_written plan plan' u = u ∙ ap (λ (l : List Field). sets plan 0 (map entry_of l)) (sym top_list)
