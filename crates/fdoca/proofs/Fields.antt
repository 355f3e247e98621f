-- The fields of an accepted descriptor: each has the type of its code, a size and a mode that the type allows. A value of fixed length has
-- the field length.
-- Assumes nothing.
use Rattle.std.specs.Prelude.{if◌then◌else◌}
use mathlib.Core.Path.{◌≡◌, refl, sym, ap, ◌∙◌}
use mathlib.Core.Logic.{◌⊎◌, inl, inr}
use Prim.Native.Nat.{ℕ, zero, suc, ◌+◌, ◌*◌, ◌/◌, ◌%◌, ◌≤◌}
use native.Mathlib.Omega.{arith}
use mathlib.Core.Bool.{Bool, true, false, not, ◌&&◌, true≢false}
use mathlib.Core.List.{List, [], ◌∷◌, ◌++◌}
use mathlib.Core.Option.{Option, none, some}
use lib.Dec.{ltb, eqb}
use borrow.Author.Tests.{not-false}
use lib.ListN.{length, drop, replicate, get_elem?}
use Rattle.fdoca.specs.Basics.{elem, lookup, is_empty, repeat, product, Result, ok, the}
use Rattle.fdoca.specs.FieldType.{FieldType, fixed_bytes, variable_bytes, terminated_bytes, short_bytes, integer, reversed_integer, packed_decimal, hex_float, reversed_float, binary_float, Layout, fixed, counted, terminated, Size, bytes, digits, Sizes, up_to, one_of, digits_up_to, size_of, allows, replaces, type_of, rule_of, nullable}
use Rattle.fdoca.specs.Triplet.{Triplet, torn, triplet, triplets, Kind, rlo, gda, Construct, sda, isd, cpt, grouped, construct_of, id_of, code_of, parameters_of, extents_of, Group, taken, factor, groups_of}
use Rattle.fdoca.specs.Item.{Field, field_length, Measured, refused, item, indicated, measure_fixed, measure_value, measure_nullable, measure_item, measure}
use Rattle.fdoca.specs.Walk.{Note, item_length, note_of, with, cut_from, walk, coming, used_up, item_then, rows_from, walk_rows, walk_by}
use Rattle.fdoca.specs.Calls.{oversize, item_at}
use Rattle.fdoca.specs.Check as C
use Rattle.fdoca.specs.Unfolding.{Described, array, row, fields_of, fields_taken, fields_referred, column, column_referred, fields_added, group_fields, add_fields, field_of, Layouts, close_row, closed, unfold_sda, unfold_row, unfold_cpt, unfold_construct, unfold_triplet, unfold_triplets, start, last_fields, unfolded, last_group, rows_of, rows_at_end, repeated}
use Rattle.fdoca.proofs.Results.{IfOk, none_owed, holds, bind_all, reject_all, ok_of, both_all, always}
use Rattle.fdoca.proofs.Tests.{by_test, by_le, by_eq, and_left, and_right}
use Rattle.fdoca.specs.Reasons.{Allowed, Unfolds, as_it_is, and_passes}
use Rattle.fdoca.specs.Between.{entry, entries, row_counted, state}
use Rattle.fdoca.proofs.TypeRows.{good_parts, rule_allows_lem}
use Rattle.fdoca.proofs.Count.{entry?, lookup_entries, Fitting, single, fitting, closed_state, check_triplet_lem}

pub record GoodField (f : Field) : Type 0 where
  pub typed : type_of f.code ≡ some f.type
  pub allowed : allows (rule_of f.type).sizes f.size ≡ true
  pub mode_allowed : f.mode ≤ C.most (rule_of f.type).has_mode
  pub bias_allowed : f.bias ≤ C.most (rule_of f.type).has_bias

at_most_1 : (n : ℕ) (has : Bool) → n ≤ C.most has → n ≤ 1
at_most_1 n true h = h
at_most_1 n false h = omega arith

pub mode_known : {f : Field} → GoodField f → f.mode ≤ 1
mode_known {f} g = at_most_1 f.mode (rule_of f.type).has_mode g.mode_allowed

pub bias_known : {f : Field} → GoodField f → f.bias ≤ 1
bias_known {f} g = at_most_1 f.bias (rule_of f.type).has_bias g.bias_allowed

pub data AllGood : List Field → Type 0 where
  nil : AllGood []
  cons : {f : Field} {fs : List Field} → GoodField f → AllGood fs → AllGood (f ∷ fs)

pub good_append : {fs gs : List Field} → AllGood fs → AllGood gs → AllGood (fs ++ gs)
good_append nil b = b
good_append (cons g a) b = cons g (good_append a b)

pub good_at : (before : List Field) (f : Field) (after : List Field) → AllGood (before ++ (f ∷ after)) → GoodField f
good_at [] f after (cons g a) = g
good_at (x ∷ before) f after (cons g a) = good_at before f after a

good_replicate : (n : ℕ) (f : Field) → GoodField f → AllGood (replicate n f)
good_replicate zero f g = nil
good_replicate (suc n) f g = cons g (good_replicate n f g)

pub good_repeat : (n : ℕ) (l : List Field) → AllGood l → AllGood (repeat n l)
good_repeat zero l a = nil
good_repeat (suc n) l a = good_append a (good_repeat n l a)

-- A good field has digits exactly where it is a packed decimal.
pub digits_packed : (f : Field) → GoodField f → (p fraction : ℕ) → f.size ≡ digits p fraction → f.type ≡ packed_decimal
unfolding rule_of
digits_packed f g p q e = go f.type (rw e at g.allowed)
  where
    go : (T : FieldType) → allows (rule_of T).sizes (digits p q) ≡ true → T ≡ packed_decimal
    go packed_decimal h = refl
    go fixed_bytes h = absurd (true≢false (sym h))
    go variable_bytes h = absurd (true≢false (sym h))
    go terminated_bytes h = absurd (true≢false (sym h))
    go short_bytes h = absurd (true≢false (sym h))
    go integer h = absurd (true≢false (sym h))
    go reversed_integer h = absurd (true≢false (sym h))
    go hex_float h = absurd (true≢false (sym h))
    go reversed_float h = absurd (true≢false (sym h))
    go binary_float h = absurd (true≢false (sym h))

pub packed_digits : (f : Field) → GoodField f → f.type ≡ packed_decimal → (F : ℕ) → f.size ≡ bytes F → ⊥
unfolding rule_of
packed_digits f g t F e =
    let h : allows (rule_of packed_decimal).sizes (bytes F) ≡ true = rw (t, e) at g.allowed in
    true≢false (sym h)

-- what an id describes has good fields only
abbrev Good : Described → Type 0
Good (array f xs) = GoodField f
Good (row l) = AllGood l

good_fields : (D : Described) → Good D → AllGood (fields_of D)
good_fields (array f xs) g = good_replicate (product xs) f g
good_fields (row l) g = g

good_taken : (k : ℕ) (D : Described) → Good D → AllGood (fields_taken k D)
good_taken zero D g = good_fields D g
good_taken (suc k) (array f []) g = cons g nil
good_taken (suc k) (array f (x ∷ xs)) g = good_replicate (suc k * product xs) f g
good_taken (suc k) (row l) g = g

data GoodIds : List (ℕ × Described) → Type 0 where
  none_yet : GoodIds []
  one_more : {c : ℕ × Described} {ds : List (ℕ × Described)} → Good c.1 → GoodIds ds → GoodIds (c ∷ ds)

abbrev GoodRow : Option (ℕ × List Field × Kind) → Type 0
GoodRow none = Unit {0}
GoodRow (some r) = AllGood r.1

record GoodLayouts (u : Layouts) : Type 0 where
  ids : GoodIds u.described
  at_hand : GoodRow u.current

good_closed : (u : Layouts) → GoodLayouts u → GoodIds (closed u)
good_closed u g = go u.current g.at_hand
  where
    go : (o : Option (ℕ × List Field × Kind)) → GoodRow o → GoodIds (close_row u.described o)
    go none k = g.ids
    go (some r) k = one_more k g.ids

abbrev GoodFound : Option Described → Type 0
GoodFound none = Unit {0}
GoodFound (some D) = Good D

good_found : (i : ℕ) (ds : List (ℕ × Described)) → GoodIds ds → GoodFound (lookup i ds)
good_found i [] none_yet = tt
good_found i (c ∷ ds) (one_more g gs) = go (eqb i c.0) (good_found i ds gs)
  where
    go : (b : Bool) → GoodFound (lookup i ds) → GoodFound (if b then some c.1 else lookup i ds)
    go true r = g
    go false r = r

-- a good field with a replaced length that is good for its type is good
good_replaced : (f : Field) (a b : ℕ) → GoodField f → C.good_column f.code a b ≡ true → GoodField (column a b f)
unfolding C.good_column
good_replaced f a b g h = record { typed = g.typed; allowed = go (replaces a b) h; mode_allowed = g.mode_allowed; bias_allowed = g.bias_allowed }
  where
    go : (x : Bool) → (if x then C.suits_type (type_of f.code) a b else true) ≡ true
        → allows (rule_of f.type).sizes (if x then size_of (rule_of f.type).sizes a b else f.size) ≡ true
    go true k = sym (ap (λ o. C.suits_type o a b) g.typed) ∙ k
    go false k = g.allowed

-- what a group that is not refused adds
good_column_lem : (x : Group) (D : Described) → Good D → Fitting x D → AllGood (column_referred x (some D))
good_column_lem x (array f []) g (single h) = cons (good_replaced f x.byte1 x.byte2 g h) nil
good_column_lem x (array f (_ ∷ _)) g x8 = elim x8 [ ]
good_column_lem x (row _) g x5 = elim x5 [ ]

good_added : (kind : Kind) (ends : Bool) (p : ℕ) (x : Group) (D : Described) → Good D
    → IfOk (λ k. AllGood (fields_added kind x (some D))) (C.count_added kind ends p x (entry D))
unfolding C.count_added
good_added rlo ends p x D g = always _ (good_repeat (factor x) _ (good_taken (taken x) D g))
good_added gda ends p x D g = reject_all (not (C.fits x (entry D))) 21 p (λ h. holds (good_column_lem x D g (fitting x D h)))

good_group : (kind : Kind) (ends : Bool) (p n : ℕ) (x : Group) (o : Option Described) → GoodFound o
    → IfOk (λ m. AllGood (fields_added kind x o)) (C.add_group kind ends p n x (entry? o))
unfolding C.add_group
good_group kind ends p n x none g = none_owed
good_group kind ends p n x (some D) g = bind_all (C.count_added kind ends p x (entry D)) (good_added kind ends p x D g) (λ k a. always _ a)

good_add : (kind : Kind) (last : Bool) (p n : ℕ) (ds : List (ℕ × Described)) (l : List Field) (gs : List Group) → GoodIds ds → AllGood l
    → IfOk (λ m. AllGood (add_fields kind ds l gs)) (C.add_groups kind last p (entries ds) n gs)
unfolding C.add_groups add_fields
good_add kind last p n ds l [] g a = holds a
good_add kind last p n ds l (x ∷ gs) g a =
    rw (lookup_entries x.ref ds)
    (bind_all _
    (good_group kind _ p n x (lookup x.ref ds) (good_found x.ref ds g))
    (λ m b. good_add kind last p m ds (l ++ group_fields kind ds x) gs g (good_append a b)))

-- the parts of a good SDA
pub good_sda_lem : (t : List ℕ) (T : FieldType) → type_of (code_of t) ≡ some T → C.good_sda t ≡ true → GoodField (field_of T t)
good_sda_lem t T e h =
    let a : (not (eqb (id_of t) 0) && C.good_type (type_of (code_of t)) (parameters_of t)) ≡ true = and_left _ (not (elem 0 (extents_of t))) h in
    let b : C.good_type (type_of (code_of t)) (parameters_of t) ≡ true = and_right (not (eqb (id_of t) 0)) _ a in
    let c = good_parts (rule_of T) (parameters_of t) (sym (ap (λ o. C.good_type o (parameters_of t)) e) ∙ b) in
    record { typed = e; allowed = c.size_allowed_lem; mode_allowed = c.mode; bias_allowed = c.bias }

good_unfold_sda : (u : Layouts) (p : ℕ) (t : List ℕ) (o : Option FieldType) → type_of (code_of t) ≡ o → GoodLayouts u
    → IfOk (λ st. GoodLayouts (unfold_sda o u t)) (C.check_sda (entries (closed u)) p t)
unfolding C.check_sda unfold_sda
good_unfold_sda u p t none e g = always (C.check_sda (entries (closed u)) p t) g
good_unfold_sda u p t (some T) e g =
    reject_all (not (C.good_length_sda t)) 5 p
    (λ h. reject_all (not (C.good_sda t)) 6 p
    (λ h₁. let f : GoodField (field_of T t) = good_sda_lem t T e (not-false (C.good_sda t) h₁) in
    let k : GoodLayouts (record { described = (id_of t, array (field_of T t) (extents_of t)) ∷ closed u; current = none }) =
    record { ids = one_more f (good_closed u g); at_hand = tt } in
    always _ k))

good_unfold_row : (kind : Kind) (last : Bool) (u : Layouts) (p : ℕ) (t : List ℕ) → GoodLayouts u
    → IfOk (λ st. GoodLayouts (unfold_row kind u t)) (C.check_row kind last (entries (closed u)) p t)
unfolding C.check_row unfold_row
good_unfold_row kind last u p t g =
    reject_all (not (C.good_length_row t)) 5 p
    (λ h. reject_all (eqb (id_of t) 0) 6 p
    (λ h₁. reject_all (C.is_described (id_of t) (entries (closed u))) 7 p
    (λ h₂. bind_all (C.add_groups kind last p (entries (closed u)) 0 (groups_of t)) (good_add kind last p 0 (closed u) [] (groups_of t) (good_closed u g) nil)
    (λ n a. let k : GoodLayouts (record { described = closed u; current = some (id_of t, add_fields kind (closed u) [] (groups_of t), kind) }) =
    record { ids = good_closed u g; at_hand = a } in
    holds k))))

good_unfold_cpt : (last : Bool) (u : Layouts) (p : ℕ) (t : List ℕ) (o : Option (ℕ × List Field × Kind)) → GoodRow o → GoodLayouts u
    → IfOk (λ st. GoodLayouts (unfold_cpt o u t)) (C.check_cpt last (record { described = entries u.described; current = row_counted o }) p t)
unfolding C.check_cpt unfold_cpt
good_unfold_cpt last u p t none k g = none_owed
good_unfold_cpt last u p t (some r) k g =
    reject_all (not (C.good_length_row t)) 5 p
    (λ h. reject_all (not (eqb (id_of t) 0)) 6 p
    (λ h₁. bind_all (C.add_groups r.2 last p (entries u.described) (length r.1) (groups_of t)) (good_add r.2 last p (length r.1) u.described r.1 (groups_of t) g.ids k)
    (λ n a. let q : GoodLayouts (record { described = u.described; current = some (r.0, add_fields r.2 u.described r.1 (groups_of t), r.2) }) =
    record { ids = g.ids; at_hand = a } in
    holds q)))

good_construct : (c : Option Construct) (last : Bool) (u : Layouts) (p : ℕ) (t : List ℕ) → GoodLayouts u
    → IfOk (λ st. GoodLayouts (unfold_construct c u t)) (C.check_construct c last (state u) p t)
unfolding C.check_construct unfold_construct
good_construct none last u p t g = none_owed
good_construct (some sda) last u p t g = rw (closed_state u) (good_unfold_sda u p t (type_of (code_of t)) refl g)
good_construct (some (grouped kind)) last u p t g = rw (closed_state u) (good_unfold_row kind last u p t g)
good_construct (some isd) last u p t g = always _ g
good_construct (some cpt) last u p t g = good_unfold_cpt last u p t u.current g.at_hand g

good_triplet : (last : Bool) (u : Layouts) (t : Triplet) → GoodLayouts u → IfOk (λ st. GoodLayouts (unfold_triplet u t)) (C.check_triplet last (state u) t)
unfolding C.check_triplet unfold_triplet
good_triplet last u (torn p) g = none_owed
good_triplet last u (triplet p t) g = good_construct (construct_of t) last u p t g

good_triplets : (u : Layouts) (ts : List Triplet) → GoodLayouts u → IfOk (λ st. GoodLayouts (unfold_triplets u ts)) (C.check_triplets (state u) ts)
unfolding C.check_triplets unfold_triplets
good_triplets u [] g = holds g
good_triplets u (t ∷ ts) g =
    bind_all (C.check_triplet (is_empty ts) (state u) t) (both_all (check_triplet_lem (is_empty ts) u t) (good_triplet (is_empty ts) u t g))
    (λ st h. rw h.0 (good_triplets (unfold_triplet u t) ts h.1))

good_last : (ds : List (ℕ × Described)) → GoodIds ds → AllGood (last_fields ds)
good_last [] none_yet = nil
good_last (c ∷ ds) (one_more g gs) = good_fields c.1 g

-- and so are those of a repeated layout
abbrev GoodRepeated : Option (List Field) → Type 0
GoodRepeated none = Unit {0}
GoodRepeated (some rows) = AllGood rows

good_referred : (k : ℕ) (o : Option Described) → GoodFound o → AllGood (fields_referred k o)
good_referred k none g = nil
good_referred k (some D) g = good_taken k D g

good_rows : (u : Layouts) (x : Group) → GoodLayouts u → GoodRepeated (rows_at_end u.current u.described x)
good_rows u x g = go u.current
  where
    by_factor : (b : Bool) → GoodRepeated (if b then some (fields_referred (taken x) (lookup x.ref u.described)) else none)
    by_factor true = good_referred (taken x) (lookup x.ref u.described) (good_found x.ref u.described g.ids)
    by_factor false = tt

    by_kind : (kind : Kind) → GoodRepeated (rows_of kind u.described x)
    by_kind rlo = by_factor (eqb (factor x) 0)
    by_kind gda = tt

    go : (o : Option (ℕ × List Field × Kind)) → GoodRepeated (rows_at_end o u.described x)
    go none = tt
    go (some r) = by_kind r.2

good_check : (d : List ℕ) → IfOk (λ n. AllGood (unfolded d) × GoodRepeated (repeated d)) (C.check d)
unfolding C.check unfolded repeated
good_check d =
    reject_all (ltb C.max_descriptor (length d)) 1 0
    (λ h. bind_all (C.check_triplets C.begin (triplets d)) (good_triplets start (triplets d) (record { ids = none_yet; at_hand = tt }))
    (λ st g. always _ (good_last (closed (unfold_triplets start (triplets d))) (good_closed _ g), good_rows (unfold_triplets start (triplets d)) (last_group d) g)))

-- The fields of an accepted descriptor are good, with those of its repeated layout.
pub fields_good : (d : List ℕ) (n : ℕ) → C.check d ≡ ok n → AllGood (unfolded d)
fields_good d n e = (ok_of (rw e at (good_check d))).0

pub rows_good : (d : List ℕ) (n : ℕ) → C.check d ≡ ok n → (rows : List Field) → repeated d ≡ some rows → AllGood rows
rows_good d n e rows r = rw r at (ok_of (rw e at (good_check d))).1

pub unfolding_good : (d : List ℕ) (n : ℕ) → C.check d ≡ ok n → (fs : List Field) → Unfolds d fs → AllGood fs
unfolding_good d n e fs (as_it_is r) = fields_good d n e
unfolding_good d n e fs (and_passes {rows = rows} j r) = good_append (fields_good d n e) (good_repeat j rows (rows_good d n e rows r))

-- No field of an accepted descriptor has a mode other than 0 and 1.
pub modes_known : (d : List ℕ) (n : ℕ) → C.check d ≡ ok n → (fs : List Field) → Unfolds d fs → (before : List Field) (f : Field) (after : List Field)
    → fs ≡ before ++ (f ∷ after) → (f.mode ≡ 0) ⊎ (f.mode ≡ 1)
modes_known d n e fs u before f after k = go f.mode (mode_known (good_at before f after (rw k at (unfolding_good d n e fs u))))
  where
    go : (m : ℕ) → m ≤ 1 → (m ≡ 0) ⊎ (m ≡ 1)
    go zero h = inl refl
    go (suc m) h = inr (omega arith)

-- an allowed size is what two numbers give in place of the bytes
two_numbers : (z : Sizes) (size : Size) → allows z size ≡ true → (a b : ℕ) × (size ≡ size_of z a b)
two_numbers (up_to n) (bytes G) h = (G / 256, G % 256, ap bytes (omega arith))
two_numbers (one_of ns) (bytes G) h = (G / 256, G % 256, ap bytes (omega arith))
two_numbers (digits_up_to n) (digits p q) h = (p, q, refl)
two_numbers (up_to n) (digits p q) h = absurd (true≢false (sym h))
two_numbers (one_of ns) (digits p q) h = absurd (true≢false (sym h))
two_numbers (digits_up_to n) (bytes G) h = absurd (true≢false (sym h))

-- 01's table allows the parameters of each field of an accepted descriptor.
pub field_allowed : (f : Field) → GoodField f → (a b : ℕ) × Allowed f.code f.bias f.mode a b × (f.size ≡ size_of (rule_of f.type).sizes a b)
field_allowed f g =
    let (a, b, e) = two_numbers (rule_of f.type).sizes f.size g.allowed in
    (a, b, rule_allows_lem f.code f.bias f.mode a b f.type g.typed g.bias_allowed g.mode_allowed (rw e at g.allowed), e)

-- a value of fixed length has the field length; a null has none
abbrev Filled : Layout → ℕ → Measured → Type 0
Filled fixed F (item z p v r) = (v ≤ F) × (z ≡ false → v ≡ F)
Filled fixed F (refused n) = Unit {0}
Filled (counted k) F m = Unit {0}
Filled terminated F m = Unit {0}

fixed_value : (l : Layout) (mode F : ℕ) (s : List ℕ) → Filled l F (measure_value l mode F s)
unfolding measure_value measure_fixed
fixed_value fixed mode F s = by_le (Filled fixed F) F (length s) (λ h. (omega arith, λ e. refl)) (λ h. tt)
fixed_value (counted k) mode F s = tt
fixed_value terminated mode F s = tt

behind_indicator : (l : Layout) (F : ℕ) (m : Measured) → Filled l F m → Filled l F (indicated m)
behind_indicator fixed F (refused n) h = tt
behind_indicator fixed F (item z p v r) h = h
behind_indicator (counted k) F m h = tt
behind_indicator terminated F m h = tt

fixed_nullable : (l : Layout) (mode F : ℕ) (s : List ℕ) → Filled l F (measure_nullable l mode F s)
unfolding measure_nullable
fixed_nullable fixed mode F [] = tt
fixed_nullable fixed mode F (b ∷ s) =
    by_eq (Filled fixed F) b _ (λ h. behind_indicator fixed F (measure_value fixed mode F s) (fixed_value fixed mode F s))
    (λ h. by_le (Filled fixed F) _ b (λ k. (omega arith, λ e. absurd (true≢false e))) (λ k. tt))
fixed_nullable (counted k) mode F s = tt
fixed_nullable terminated mode F s = tt

fixed_item : (f : Field) (s : List ℕ) → Filled (rule_of f.type).layout (field_length f) (measure f s)
unfolding measure measure_item
fixed_item f s =
    by_test (Filled (rule_of f.type).layout (field_length f)) (nullable f.code)
    (λ h. fixed_nullable (rule_of f.type).layout f.mode (field_length f) s)
    (λ h. fixed_value (rule_of f.type).layout f.mode (field_length f) s)

-- an item as it is noted: of a good field, and with a value that its field can hold
pub record GoodNote (n : Note) : Type 0 where
  pub field_good : GoodField n.field
  pub filled : (rule_of n.field.type).layout ≡ fixed → (n.value ≤ field_length n.field) × (n.is_null ≡ false → n.value ≡ field_length n.field)

data GoodNotes : List Note → Type 0 where
  nil : GoodNotes []
  cons : {n : Note} {ns : List Note} → GoodNote n → GoodNotes ns → GoodNotes (n ∷ ns)

good_note : (f : Field) (p : ℕ) (m : Measured) → GoodField f → Filled (rule_of f.type).layout (field_length f) m → IfOk GoodNote (note_of f p m)
unfolding note_of
good_note f p (refused n) g h = none_owed
good_note f p (item z l v r) g h =
    let k : GoodNote (record { start = p; field = f; is_null = z; lead = l; value = v; spare = r }) =
    record { field_good = g; filled = λ e. rw e at h } in
    holds k

good_cut : (p : ℕ) (fs : List Field) (s : List ℕ) → AllGood fs → IfOk (λ c. GoodNotes c.notes) (cut_from p fs s)
unfolding cut_from
good_cut p [] s nil = holds nil
good_cut p (f ∷ fs) s (cons g gs) =
    bind_all (note_of f p (measure f s)) (good_note f p (measure f s) g (fixed_item f s))
    (λ n h. bind_all (cut_from (p + item_length n) fs (drop (item_length n) s)) (good_cut (p + item_length n) fs (drop (item_length n) s) gs)
    (λ c k. let r : GoodNotes (with n c).notes = cons h k in holds r))

good_walk : (fs : List Field) (s : List ℕ) → AllGood fs → IfOk GoodNotes (walk fs s)
unfolding walk
good_walk fs s g =
    bind_all (cut_from 0 fs s) (good_cut 0 fs s g) (λ c k. reject_all (ltb 0 (length c.rest)) 16 c.end (λ h. holds k))

good_then : (rows fs : List Field) (p : ℕ) (s : List ℕ) (others : Note → List Field → Result (List Note)) → AllGood fs
    → ((n : Note) (left : List Field) → AllGood left → IfOk GoodNotes (others n left)) → IfOk GoodNotes (item_then fs p s others)
good_then rows [] p s others nil h = holds nil
good_then rows (f ∷ fs) p s others (cons g gs) h =
    bind_all (note_of f p (measure f s)) (good_note f p (measure f s) g (fixed_item f s)) (λ n k. bind_all (others n fs) (h n fs gs) (λ ns ks. holds (cons k ks)))

good_coming : {rows fs : List Field} → AllGood rows → AllGood fs → AllGood (coming rows fs)
good_coming a nil = a
good_coming a (cons g gs) = cons g gs

good_rows_from : (room p : ℕ) (rows fs : List Field) (s : List ℕ) → AllGood rows → AllGood fs → IfOk GoodNotes (rows_from room p rows fs s)
unfolding rows_from
good_rows_from zero p rows fs s a g = by_test (IfOk GoodNotes) (used_up fs s) (λ h. holds nil) (λ h. none_owed)
good_rows_from (suc room) p rows fs s a g =
    by_test (IfOk GoodNotes) (used_up fs s) (λ h. holds nil)
    (λ h. good_then rows (coming rows fs) p s _ (good_coming a g) (λ n left l. good_rows_from room (p + item_length n) rows left (drop (item_length n) s) a l))

good_walk_by : (fs : List Field) (o : Option (List Field)) (s : List ℕ) → AllGood fs → GoodRepeated o → IfOk GoodNotes (walk_by fs o s)
unfolding walk_by walk_rows
good_walk_by fs none s g r = good_walk fs s g
good_walk_by fs (some rows) s g r = good_rows_from _ 0 rows fs s r g

nth_good : (ns : List Note) (k : ℕ) → GoodNotes ns → IfOk GoodNote (the (get_elem? ns k) 17 0)
nth_good [] k nil = none_owed
nth_good (n ∷ ns) zero (cons g gs) = holds g
nth_good (n ∷ ns) (suc k) (cons g gs) = nth_good ns k gs

good_item : (d s : List ℕ) (k : ℕ) → IfOk GoodNote (item_at d s k)
unfolding item_at
good_item d s k =
    reject_all (oversize d s) 1 0
    (λ h. bind_all (C.check d) (good_check d)
    (λ n g. bind_all (walk_by (unfolded d) (repeated d) s) (good_walk_by (unfolded d) (repeated d) s g.0 g.1) (λ ns w. nth_good ns k w)))

-- The item that the calls tell of has a good field, and a value that the field can hold.
pub item_good : (d s : List ℕ) (k : ℕ) (n : Note) → item_at d s k ≡ ok n → GoodNote n
item_good d s k n e = ok_of (rw e at (good_item d s k))
