-- From the triplet at p to the next: what the check has come to, and what is known there.
-- Assumes nothing.
use Rattle.std.specs.Prelude.{Option, Some, None}
use mathlib.Core.Path.{◌≡◌, refl, sym, ap, ◌∙◌, subst}
use mathlib.Core.Logic.{◌⊎◌, inl, inr}
use Prim.Native.Nat.{ℕ, zero, suc, ◌+◌, ◌-◌, ◌*◌, ◌/◌, ◌%◌, ◌≤◌, ◌<◌}
use native.Mathlib.Omega.{arith}
use native.Mathlib.Nat.{mul-zero}
use mathlib.Core.Bool.{Bool, true, false, not, true≢false}
use mathlib.Core.List.{List, [], ◌∷◌, ◌++◌, append_assoc}
use mathlib.Core.Option.{none, some}
use mathlib.Core.Option as defined_option
use lib.Dec.{eqb}
use lib.ListN.{length, get_or, set, take, drop, length-drop, length-replicate}
use lib.Seq.{get_or-set_same, length-take-le, get_or-take, get_or-drop}
use borrow.Author.Tests.{eq-eqb, eqb-true}
use Rattle.fdoca.specs.Basics.{is_empty, product, lookup, is_some, refuse, ok}
use Rattle.fdoca.specs.Triplet.{torn, triplet, triplets, Kind, construct_of, id_of, code_of, extents_of, Group, groups_of}
use Rattle.fdoca.specs.FieldType.{FieldType, type_of}
use Rattle.fdoca.specs.Item.{Field}
use Rattle.fdoca.specs.Check.{Entry, State, is_described, good_length_sda, good_sda, good_length_row, add_groups, check_sda, check_row, check_cpt, check_isd, check_construct, check_triplet, check_triplets, begin}
use Rattle.fdoca.specs.Check as C
use Rattle.fdoca.specs.Unfolding.{Described, array, field_of, group_fields, add_fields, Layouts, closed, close_row, unfold_sda, unfold_row, unfold_cpt, unfold_construct, unfold_triplet, unfold_triplets, start}
use Rattle.fdoca.proofs.Results.{ok_of, ok_bind, ok_reject}
use Rattle.fdoca.specs.Between.{triplets_at, entry, entries, state}
use Rattle.fdoca.proofs.Triplets.{triplets_empty, triplets_short, triplets_past, triplets_next}
use Rattle.fdoca.proofs.Count.{entry?, closed_state, lookup_entries, check_triplet_lem}
use Rattle.fields.specs.Plan.{entry_of, Proper}
use Rattle.fields.proofs.Parts.{entry_given, entry_code}
use Rattle.plans.specs.Tied.{groups_in, kind_of, kind_at, groups_at, lower_of, SdaKept}
use Rattle.tables.specs.Lists.{Lists}
use Rattle.sdas.specs.Tables.{Positive, Entered}
use Rattle.sdas.specs.Judged.{described}
use Rattle.sdas.specs.Kept.{PutSDA}
use Rattle.sdas.proofs.Entries.{good_positive, good_id, good_type_lem}
use Rattle.triplets.specs.Judged.{row_at_hand, GoodRow}
use Rattle.descriptors.specs.declared.Row.{Row}
use Rattle.descriptors.specs.declared.Step.{Step}
use Rattle.descriptors.specs.Holds.{RefersIn, Placed, Tables, RowSoFar, AtHand, row_of, Current, Last, Holds, Held, TookSDA, TookRow, with_row, at_hand, TookCPT, Moved}
use Rattle.descriptors.proofs.Rows.{AllGroups, cpt_groups, cpt_all, own_groups, own_refer}
use Rattle.descriptors.proofs.Refs.{groups_refer}
use Rattle.descriptors.proofs.Grow.{tables_put, tables_later}

-- a triplet that is torn
module _ (d : List ℕ) (T : Lists) (p n : ℕ) (x : Option Step) (held : Held d T p x) (there : p < length d) (en : n ≡ get_or d p 0) where
  torn_at : triplets_at d p ≡ torn p ∷ [] → check_triplets begin (triplets d) ≡ refuse 2 p
  unfolding check_triplets check_triplet
  torn_at q = held.1.checking ∙ rw q

  pub torn_short : n < 2 → check_triplets begin (triplets d) ≡ refuse 2 p
  torn_short h = torn_at (triplets_short d p there (omega arith))

  pub torn_past : 2 ≤ n → length d - p < n → check_triplets begin (triplets d) ≡ refuse 2 p
  torn_past h k = torn_at (triplets_past d p there (omega arith) (omega arith))

-- a whole triplet of n bytes, and what the check and the unfolding come to behind it
module _ (d : List ℕ) (T : Lists) (p n : ℕ) (x : Option Step) (u : Layouts) (h : Holds d T p x u) (there : p < length d) (en : n ≡ get_or d p 0)
    (least : 2 ≤ n) (whole : n ≤ length d - p) where
  abbrev t : List ℕ
  t = take n (drop p d)

  next : triplets_at d p ≡ triplet p t ∷ triplets_at d (p + n)
  next = rw en (triplets_next d p there (omega arith) (omega arith))

  last_is : is_empty (triplets_at d (p + n)) ≡ eqb (p + n) (length d)
  last_is = triplets_empty d (p + n) (omega arith)

  pub refused_here : (m : ℕ) → check_triplet (eqb (p + n) (length d)) (state u) (triplet p t) ≡ refuse m p → check_triplets begin (triplets d) ≡ refuse m p
  unfolding check_triplets
  refused_here m q = h.checking ∙ rw (next, last_is, q)

  pub checked_on : (v : State) → check_triplet (eqb (p + n) (length d)) (state u) (triplet p t) ≡ ok v → v ≡ state (unfold_triplet u (triplet p t))
  checked_on v q = ok_of (rw q at (check_triplet_lem (eqb (p + n) (length d)) u (triplet p t)))

  pub checking_on : (v : State) → check_triplet (eqb (p + n) (length d)) (state u) (triplet p t) ≡ ok v
      → check_triplets begin (triplets d) ≡ check_triplets (state (unfold_triplet u (triplet p t))) (triplets_at d (p + n))
  unfolding check_triplets
  checking_on v q = h.checking ∙ rw (next, last_is, q) (ap (λ w. check_triplets w (triplets_at d (p + n))) (checked_on v q))

  pub unfolding_on : unfold_triplets start (triplets d) ≡ unfold_triplets (unfold_triplet u (triplet p t)) (triplets_at d (p + n))
  unfolding unfold_triplets
  unfolding_on = h.unfolds ∙ rw next

-- what an accepted SDA, RLO or GDA tells
not_known : (ds : List (ℕ × Described)) (i : ℕ) → is_described i (entries ds) ≡ false → lookup i ds ≡ none
not_known ds i h = go (lookup i ds) (sym (ap is_some (lookup_entries i ds)) ∙ h)
  where
    go : (o : defined_option.Option Described) → is_some (entry? o) ≡ false → o ≡ none
    go none q = refl
    go (some D) q = absurd (true≢false q)

sda_free : (es : List (ℕ × Entry)) (p : ℕ) (t : List ℕ) (v : State) → check_sda es p t ≡ ok v → is_described (id_of t) es ≡ false
unfolding check_sda
sda_free es p t v q =
    let a = ok_reject (not (good_length_sda t)) 5 p _ v q in
    let b = ok_reject (not (good_sda t)) 6 p _ v a.1 in
    (ok_reject (is_described (id_of t) es) 7 p _ v b.1).0

row_free : (kind : Kind) (last : Bool) (es : List (ℕ × Entry)) (p : ℕ) (t : List ℕ) (v : State) → check_row kind last es p t ≡ ok v
    → (is_described (id_of t) es ≡ false) × ((m : ℕ) × (add_groups kind last p es 0 (groups_of t) ≡ ok m))
unfolding check_row
row_free kind last es p t v q =
    let a = ok_reject (not (good_length_row t)) 5 p _ v q in
    let b = ok_reject (eqb (id_of t) 0) 6 p _ v a.1 in
    let c = ok_reject (is_described (id_of t) es) 7 p _ v b.1 in
    let g = ok_bind (add_groups kind last p es 0 (groups_of t)) (λ n. ok (row_at_hand kind (id_of t) n es)) v c.1 in
    (c.0, (g.0, g.1))

cpt_added : (kind : Kind) (last : Bool) (es : List (ℕ × Entry)) (id sum p : ℕ) (t : List ℕ) (v : State) → check_cpt last (row_at_hand kind id sum es) p t ≡ ok v
    → (m : ℕ) × (add_groups kind last p es sum (groups_of t) ≡ ok m)
unfolding check_cpt
cpt_added kind last es id sum p t v q =
    let a = ok_reject (not (good_length_row t)) 5 p _ v q in
    let b = ok_reject (not (eqb (id_of t) 0)) 6 p _ v a.1 in
    let g = ok_bind (add_groups kind last p es sum (groups_of t)) (λ n. ok (row_at_hand kind id n es)) v b.1 in
    (g.0, g.1)

-- the size of an SDA
sda_size : (c l : ℕ) → c ≤ 4096 → ((c + 65536 * l) % 65536 ≡ c) × ((c + 65536 * l) / 65536 ≡ l)
sda_size c l h = (omega arith, omega arith)

positive_lower : (code : ℕ) (xs : List ℕ) → 0 < product xs → Positive (C.array code xs)
positive_lower code [] h = tt
positive_lower code (y ∷ xs) h = go (product xs) h
  where
    go : (k : ℕ) → 0 < y * k → 0 < k
    go zero q = absurd (let w : y * zero ≡ 0 = mul-zero y in let v : ⊥ = omega arith in v)
    go (suc k) q = omega arith

-- behind an SDA
module _ (d : List ℕ) (T T' : Lists) (p n : ℕ) (x : Option Step) (u : Layouts) (h : Holds d T p x u) (there : p < length d) (en : n ≡ get_or d p 0)
    (least : 2 ≤ n) (whole : n ≤ length d - p) (tb : Tables d T'.starts T'.sizes T'.entries (closed u) p) (kind : get_or (take n (drop p d)) 1 0 ≡ 0x70) where
  abbrev sda_byte : List ℕ
  sda_byte = take n (drop p d)

  sda_checked : check_triplet (eqb (p + n) (length d)) (state u) (triplet p sda_byte) ≡ check_sda (entries (closed u)) p sda_byte
  unfolding check_triplet check_construct
  sda_checked = rw kind (ap (λ es. check_sda es p sda_byte) (closed_state u))

  sda_unfolds : (T : FieldType) → type_of (code_of sda_byte) ≡ some T
      → unfold_triplet u (triplet p sda_byte) ≡ record { described = (id_of sda_byte, array (field_of T sda_byte) (extents_of sda_byte)) ∷ closed u; current = none }
  unfolding unfold_triplet unfold_construct unfold_sda
  sda_unfolds T q = rw (kind, q)

  pub sda_refused : (m : ℕ) → check_sda (entries (closed u)) p sda_byte ≡ refuse m p → check_triplets begin (triplets d) ≡ refuse m p
  sda_refused m q = refused_here d T p n x u h there en least whole m (sda_checked ∙ q)

  pub sda_moved : (T'' : Lists) (r : Step) → length d ≤ 4096 → TookSDA sda_byte p T' T'' r → Moved d T'' p (Some r)
  sda_moved T'' r small st =
      let c : check_sda (entries (closed u)) p sda_byte ≡ ok (described (id_of sda_byte) (code_of sda_byte) (extents_of sda_byte) (entries (closed u))) = st.accepted (entries (closed u)) tb.agrees in
      let w : PutSDA sda_byte p T'.starts T'.sizes T'.entries T''.starts T''.sizes T''.entries = st.puts in
      let g : good_sda sda_byte ≡ true = st.good in
      let ty = good_type_lem sda_byte g in
      let f : Field = field_of ty.0 sda_byte in
      let xs : List ℕ = extents_of sda_byte in
      let v : Layouts = record { described = (id_of sda_byte, array f xs) ∷ closed u; current = none } in
      let ev : unfold_triplet u (triplet p sda_byte) ≡ v = sda_unfolds ty.0 ty.1 in
      let free : lookup (id_of sda_byte) (closed u) ≡ none = not_known (closed u) (id_of sda_byte) (sda_free (entries (closed u)) p sda_byte _ c) in
      let few : product xs ≤ 4096 = rw st.counted at st.small in
      let sz = sda_size (product xs) (lower_of xs) few in
      let pr : Proper f = w.is_entry.proper ty.0 ty.1 (good_id sda_byte g) in
      let ee : w.entry ≡ entry_of f = w.is_entry.same ty.0 ty.1 in
      let sized : Entered p (product xs + 65536 * lower_of xs) w.entry (entry (array f xs)) =
      record { here = λ k. omega arith; count = sz.0; lower = sz.1; positive = positive_lower (code_of sda_byte) xs (good_positive sda_byte g); coded = rw ee (entry_given f pr, entry_code f pr) } in
      let le : get_or (set T'.entries (id_of sda_byte) w.entry) (id_of sda_byte) 0 ≡ w.entry = get_or-set_same T'.entries (id_of sda_byte) w.entry 0 (omega (arith, w.id_fits, tb.sizes.2)) in
      let lz : get_or (set T'.sizes (id_of sda_byte) (product xs + 65536 * lower_of xs)) (id_of sda_byte) 0 ≡ product xs + 65536 * lower_of xs =
      get_or-set_same T'.sizes (id_of sda_byte) (product xs + 65536 * lower_of xs) 0 (omega (arith, w.id_fits, tb.sizes.1)) in
      let kept : SdaKept (set T'.sizes (id_of sda_byte) (product xs + 65536 * lower_of xs)) (set T'.entries (id_of sda_byte) w.entry) (id_of sda_byte) f xs =
      record { entry = le ∙ ee; marked = rw (le, ee) (entry_given f pr); proper = pr; typed = ty.1; count = rw lz sz.0; lower = rw lz sz.1; some_item = good_positive sda_byte g } in
      let tb' : Tables d (set T'.starts (id_of sda_byte) p) (set T'.sizes (id_of sda_byte) (product xs + 65536 * lower_of xs)) (set T'.entries (id_of sda_byte) w.entry) ((id_of sda_byte, array f xs) ∷ closed u) (p + n) =
      tables_put d T'.starts T'.sizes T'.entries (closed u) p tb (id_of sda_byte) p (product xs + 65536 * lower_of xs) w.entry (array f xs) free w.id_fits (p + n) (omega arith) (omega arith) sized kept in
      let k : Holds d T'' (p + n) (Some r) v =
      record {
        checking = rw ev at (checking_on d T p n x u h there en least whole _ (sda_checked ∙ c));
        unfolds = rw ev at (unfolding_on d T p n x u h there en least whole);
        tables = rw (w.positions, w.sizes, w.entries) tb';
        current = rw st.no_row tt;
        last = record { same_id = st.same_id; counted = st.counted ∙ sym (length-replicate (product xs) f); small = st.small; id_fits = rw st.same_id w.id_fits };
        there = omega arith;
      } in
      let held : Held d T'' (p + n) (Some r) = (v, k) in
      record { held = rw en at held; least = omega arith }

-- the count of a row at hand
abbrev count_in : defined_option.Option (ℕ × ℕ × Kind) → ℕ
count_in none = 0
count_in (some q) = q.1

-- an RLO or a GDA, by its construct type
module _ (t : List ℕ) (p : ℕ) (kind : (get_or t 1 0 ≡ 0x71) ⊎ (get_or t 1 0 ≡ 0x75)) where
  row_checks : (last : Bool) (st : State) → check_triplet last st (triplet p t) ≡ check_row (kind_of (get_or t 1 0)) last (C.closed st) p t
  unfolding check_triplet check_construct kind_of
  row_checks last st = go kind
    where
      go : (get_or t 1 0 ≡ 0x71) ⊎ (get_or t 1 0 ≡ 0x75) → check_triplet last st (triplet p t) ≡ check_row (kind_of (get_or t 1 0)) last (C.closed st) p t
      go (inl q) = rw q
      go (inr q) = rw q

  row_unfolds : (u : Layouts) → unfold_triplet u (triplet p t) ≡ unfold_row (kind_of (get_or t 1 0)) u t
  unfolding unfold_triplet unfold_construct kind_of
  row_unfolds u = go kind
    where
      go : (get_or t 1 0 ≡ 0x71) ⊎ (get_or t 1 0 ≡ 0x75) → unfold_triplet u (triplet p t) ≡ unfold_row (kind_of (get_or t 1 0)) u t
      go (inl q) = rw q
      go (inr q) = rw q

-- behind an RLO or a GDA
module _ (d : List ℕ) (T T' : Lists) (p n : ℕ) (x : Option Step) (u : Layouts) (h : Holds d T p x u) (there : p < length d) (en : n ≡ get_or d p 0)
    (least : 2 ≤ n) (whole : n ≤ length d - p) (tb : Tables d T'.starts T'.sizes T'.entries (closed u) p)
    (kind : (get_or (take n (drop p d)) 1 0 ≡ 0x71) ⊎ (get_or (take n (drop p d)) 1 0 ≡ 0x75)) where
  abbrev row : List ℕ
  row = take n (drop p d)

  -- the construct type, and the kind
  same_type : get_or row 1 0 ≡ get_or d (p + 1) 0
  same_type = get_or-take n (drop p d) 1 0 (omega arith) ∙ get_or-drop p d 1 0

  abbrev own : Kind
  own = kind_of (get_or row 1 0)

  same_own : own ≡ kind_at d p
  same_own = ap kind_of same_type

  row_checked : check_triplet (eqb (p + n) (length d)) (state u) (triplet p row) ≡ check_row own (eqb (p + n) (length d)) (entries (closed u)) p row
  row_checked = row_checks row p kind (eqb (p + n) (length d)) (state u) ∙ ap (λ es. check_row own (eqb (p + n) (length d)) es p row) (closed_state u)

  abbrev made : List Field
  made = add_fields own (closed u) [] (groups_of row)

  row_made : unfold_triplet u (triplet p row) ≡ record { described = closed u; current = some (id_of row, made, own) }
  unfolding unfold_row
  row_made = row_unfolds row p kind u

  pub row_refused : (m : ℕ) → check_row own (eqb (p + n) (length d)) (entries (closed u)) p row ≡ refuse m p → check_triplets begin (triplets d) ≡ refuse m p
  row_refused m q = refused_here d T p n x u h there en least whole m (row_checked ∙ q)

  pub row_moved : (r : Step) → TookRow (eqb (p + n) (length d)) row p T' r → Moved d T' p (Some r)
  unfolding groups_at
  row_moved r st =
      let c : check_row own (eqb (p + n) (length d)) (entries (closed u)) p row ≡ ok (row_at_hand own (id_of row) r.count (entries (closed u))) = st.accepted (entries (closed u)) tb.agrees in
      let v : Layouts = record { described = closed u; current = some (id_of row, made, own) } in
      let a = row_free own (eqb (p + n) (length d)) (entries (closed u)) p row _ c in
      let free : lookup (id_of row) (closed u) ≡ none = not_known (closed u) (id_of row) a.0 in
      let gd : GoodRow row = st.good in
      let sz : length row ≡ n = length-take-le n (drop p d) (omega (arith, length-drop p d)) in
      let fits : p + n ≤ length d = omega arith in
      let refs : AllGroups (RefersIn own T'.starts (closed u) p) (groups_of row) =
      groups_refer own (eqb (p + n) (length d)) T'.starts (closed u) p p 0 a.1.0 (groups_of row) (λ i D k. let w : Placed d T'.starts T'.sizes T'.entries (closed u) p i D = tb.placed i D k in (w.before, w.id_fits)) a.1.1 in
      let same : row_at_hand own (id_of row) r.count (entries (closed u)) ≡ state v =
      rw row_made at (checked_on d T p n x u h there en least whole _ (row_checked ∙ c)) in
      let cn : r.count ≡ length made = ap (λ (w : State). count_in w.current) same in
      let six : 6 ≤ n = omega (arith, gd.some_there) in
      let far : RowSoFar d T'.starts (closed u) (p + n) p made =
      record {
        head = omega arith;
        long = omega arith;
        before = omega arith;
        groups = groups_of row;
        fields = ap (λ k. add_fields k (closed u) [] (groups_of row)) same_own;
        all = rw (← en) (own_groups d p n fits gd);
        rest = λ g. rw (← en) (own_refer d p n fits gd (RefersIn (kind_at d p) T'.starts (closed u) p) (rw same_own at refs) g);
      } in
      let hand : AtHand d T'.starts (closed u) (p + n) (record { head = get_or row 1 0; at = p }) (id_of row) made own =
      record { same_head = same_type; same_kind = refl; free = free; earlier = λ i D k. (tb.placed i D k).before; so_far = far } in
      let k : Holds d T' (p + n) (Some r) v =
      record {
        checking = rw row_made at (checking_on d T p n x u h there en least whole _ (row_checked ∙ c));
        unfolds = rw row_made at (unfolding_on d T p n x u h there en least whole);
        tables = tables_later d T'.starts T'.sizes T'.entries (closed u) p (p + n) (omega arith) tb;
        current = rw st.row hand;
        last = record { same_id = st.same_id; counted = cn; small = st.small; id_fits = rw st.same_id st.id_fits };
        there = fits;
      } in
      let held : Held d T' (p + n) (Some r) = (v, k) in
      record { held = rw en at held; least = omega arith }

-- the groups of two triplets, one behind the other
add_append : (kind : Kind) (ds : List (ℕ × Described)) (l : List Field) (gs hs : List Group)
    → add_fields kind ds (add_fields kind ds l gs) hs ≡ add_fields kind ds l (gs ++ hs)
unfolding add_fields
add_append kind ds l [] hs = refl
add_append kind ds l (g ∷ gs) hs = add_append kind ds (l ++ group_fields kind ds g) gs hs

-- behind a CPT
module _ (d : List ℕ) (T : Lists) (p n : ℕ) (x : Option Step) (u : Layouts) (h : Holds d T p x u) (there : p < length d) (en : n ≡ get_or d p 0)
    (least : 2 ≤ n) (whole : n ≤ length d - p) (kind : get_or (take n (drop p d)) 1 0 ≡ 0x7F) where
  abbrev cpt_byte : List ℕ
  cpt_byte = take n (drop p d)

  cpt_checked : check_triplet (eqb (p + n) (length d)) (state u) (triplet p cpt_byte) ≡ check_cpt (eqb (p + n) (length d)) (state u) p cpt_byte
  unfolding check_triplet check_construct
  cpt_checked = rw kind

  cpt_unfolds : (c : ℕ × List Field × Kind) → u.current ≡ some c
      → unfold_triplet u (triplet p cpt_byte) ≡ record { described = u.described; current = some (c.0, add_fields c.2 u.described c.1 (groups_of cpt_byte), c.2) }
  unfolding unfold_triplet unfold_construct unfold_cpt
  cpt_unfolds c q = rw (kind, q)

  -- what the check keeps is what the step before tells
  same_state : state u ≡ at_hand x (entries u.described)
  same_state = go x h.current h.last
    where
      go : (x : Option Step) → Current d T.starts u.described p (row_of x) u.current → Last x (closed u) → state u ≡ at_hand x (entries u.described)
      go None c l = of_none u.current c
        where
          of_none : (o : defined_option.Option (ℕ × List Field × Kind)) → Current d T.starts u.described p None o
              → state (record { described = u.described; current = o }) ≡ at_hand None (entries u.described)
          of_none none c = refl
          of_none (some v) c = absurd c
      go (Some y) c l = of_some y.row u.current c l
        where
          of_some : (w : Option Row) (o : defined_option.Option (ℕ × List Field × Kind)) → Current d T.starts u.described p w o → Last (Some y) (close_row u.described o)
              → state (record { described = u.described; current = o }) ≡ record { described = entries u.described; current = with_row y w }
          of_some None none c l = refl
          of_some None (some v) c l = absurd c
          of_some (Some r) none c l = absurd c
          of_some (Some r) (some v) c l = rw (l.same_id, l.counted, c.same_kind)

  pub cpt_refused : (m : ℕ) → check_cpt (eqb (p + n) (length d)) (at_hand x (entries u.described)) p cpt_byte ≡ refuse m p → check_triplets begin (triplets d) ≡ refuse m p
  cpt_refused m q = refused_here d T p n x u h there en least whole m (cpt_checked ∙ ap (λ w. check_cpt (eqb (p + n) (length d)) w p cpt_byte) same_state ∙ q)

  pub cpt_moved : (r : Step) → TookCPT (eqb (p + n) (length d)) cpt_byte T x r → Moved d T p (Some r)
  unfolding groups_at
  cpt_moved r st =
      go u.current refl (subst (λ w. Current d T.starts u.described p w u.current) (ap row_of st.was ∙ st.had) h.current) (subst (λ w. Last w (closed u)) st.was h.last)
    where
      go : (o : defined_option.Option (ℕ × List Field × Kind)) → u.current ≡ o → Current d T.starts u.described p (Some st.row) o → Last (Some st.before) (close_row u.described o)
          → Moved d T p (Some r)
      go none q a l = absurd a
      go (some c) q a l =
          let ds : List (ℕ × Described) = u.described in
          let es : List (ℕ × Entry) = entries ds in
          let w : Row = st.row in
          let kd : Kind = kind_of w.head in
          let acc : check_cpt (eqb (p + n) (length d)) (row_at_hand kd c.0 st.before.count es) p cpt_byte ≡ ok (row_at_hand kd c.0 r.count es) = st.accepted p c.0 es h.tables.agrees in
          let gr = cpt_added kd (eqb (p + n) (length d)) es c.0 st.before.count p cpt_byte _ acc in
          let made' : List Field = add_fields kd ds c.1 (groups_of cpt_byte) in
          let v : Layouts = record { described = ds; current = some (c.0, made', kd) } in
          let ev : unfold_triplet u (triplet p cpt_byte) ≡ v = rw a.same_kind (cpt_unfolds c q) in
          let su : state u ≡ row_at_hand kd c.0 st.before.count es = rw (q, l.counted, a.same_kind) in
          let whole-check : check_triplet (eqb (p + n) (length d)) (state u) (triplet p cpt_byte) ≡ ok (row_at_hand kd c.0 r.count es) = cpt_checked ∙ rw su acc in
          let same : row_at_hand kd c.0 r.count es ≡ state v = rw ev at (checked_on d T p n x u h there en least whole _ whole-check) in
          let cn : r.count ≡ length made' = ap (λ (w : State). count_in w.current) same in
          let gd : GoodRow cpt_byte = st.good in
          let sz : length cpt_byte ≡ n = length-take-le n (drop p d) (omega (arith, length-drop p d)) in
          let fits : p + n ≤ length d = omega arith in
          let six : 6 ≤ n = omega (arith, gd.some_there) in
          let far : RowSoFar d T.starts ds p w.at c.1 = a.so_far in
          let hd : kd ≡ kind_at d w.at = ap kind_of a.same_head in
          let refs : AllGroups (RefersIn (kind_at d w.at) T.starts ds w.at) (groups_of cpt_byte) =
          rw hd at (groups_refer kd (eqb (p + n) (length d)) T.starts ds p w.at st.before.count gr.0 (groups_of cpt_byte) (λ i D w. (a.earlier i D w, (h.tables.placed i D w).id_fits)) gr.1) in
          let head_is : get_or d (p + 1) 0 ≡ 0x7F = sym (get_or-take n (drop p d) 1 0 (omega arith) ∙ get_or-drop p d 1 0) ∙ kind in
          let far' : RowSoFar d T.starts ds (p + n) w.at made' =
          record {
            head = far.head;
            long = far.long;
            before = omega (arith, far.before);
            groups = far.groups ++ groups_of cpt_byte;
            fields = rw (far.fields, hd) (add_append (kind_at d w.at) ds [] far.groups (groups_of cpt_byte));
            all = far.all ∙ rw (cpt_groups d p (omega arith) head_is, ← en, own_groups d p n fits gd) (sym (append_assoc far.groups (groups_of cpt_byte) (groups_in 0 (drop (p + n) d))));
            rest = λ g. far.rest (cpt_all d p (omega arith) head_is (RefersIn (kind_at d w.at) T.starts ds w.at) (rw (← en) (own_refer d p n fits gd (RefersIn (kind_at d w.at) T.starts ds w.at) refs g)));
          } in
          let hand : AtHand d T.starts ds (p + n) w c.0 made' kd =
          record { same_head = a.same_head; same_kind = refl; free = a.free; earlier = a.earlier; so_far = far' } in
          let y : Holds d T (p + n) (Some r) v =
          record {
            checking = rw ev at (checking_on d T p n x u h there en least whole _ whole-check);
            unfolds = rw ev at (unfolding_on d T p n x u h there en least whole);
            tables = tables_later d T.starts T.sizes T.entries ds p (p + n) (omega arith) h.tables;
            current = rw st.same_row hand;
            last = record { same_id = st.same_id ∙ l.same_id; counted = cn; small = st.small; id_fits = rw st.same_id l.id_fits };
            there = fits;
          } in
          let held : Held d T (p + n) (Some r) = (v, y) in
          record { held = rw en at held; least = omega arith }

-- nothing is described before the first triplet
module _ (d : List ℕ) (T : Lists) (x : Option Step) (u : Layouts) (h : Holds d T 0 x u) where
  first_described : u.described ≡ []
  first_described = go u.described h.tables
    where
      go : (ds : List (ℕ × Described)) → Tables d T.starts T.sizes T.entries ds 0 → ds ≡ []
      go [] t = refl
      go ((i, D) ∷ ds) t =
          let f : eqb i i ≡ true = eq-eqb i i refl in
          let w : Placed d T.starts T.sizes T.entries ((i, D) ∷ ds) 0 i D = t.placed i D (rw f) in
          absurd (let y : ⊥ = omega (arith, w.before) in y)

  first_current : u.current ≡ none
  first_current = go (row_of x) u.current h.current
    where
      go : (w : Option Row) (o : defined_option.Option (ℕ × List Field × Kind)) → Current d T.starts u.described 0 w o → o ≡ none
      go None none c = refl
      go None (some v) c = absurd c
      go (Some r) none c = absurd c
      go (Some r) (some v) c = absurd (let y : ⊥ = omega (arith, c.so_far.long, c.so_far.before) in y)

-- behind an ISD
module _ (d : List ℕ) (T T' : Lists) (p n : ℕ) (x : Option Step) (u : Layouts) (h : Holds d T p x u) (there : p < length d) (en : n ≡ get_or d p 0)
    (least : 2 ≤ n) (whole : n ≤ length d - p) (tb : Tables d T'.starts T'.sizes T'.entries (closed u) p) (kind : get_or (take n (drop p d)) 1 0 ≡ 0x7E) where
  abbrev isd_byte : List ℕ
  isd_byte = take n (drop p d)

  isd_checked : check_triplet (eqb (p + n) (length d)) (state u) (triplet p isd_byte) ≡ check_isd (state u) p isd_byte
  unfolding check_triplet check_construct
  isd_checked = rw kind

  isd_unfolds : unfold_triplet u (triplet p isd_byte) ≡ u
  unfolding unfold_triplet unfold_construct
  isd_unfolds = rw kind

  isd_first_lem : check_isd (state u) p isd_byte ≡ ok (state u) → p ≡ 0
  unfolding check_isd
  isd_first_lem q = go (eqb p 0) refl (ok_reject (not (eqb p 0)) 4 p _ (state u) q).0
    where
      go : (c : Bool) → eqb p 0 ≡ c → not c ≡ false → p ≡ 0
      go true f k = eqb-true p 0 f
      go false f k = absurd (true≢false k)

  pub isd_refused : (m : ℕ) → check_isd (state u) p isd_byte ≡ refuse m p → check_triplets begin (triplets d) ≡ refuse m p
  isd_refused m q = refused_here d T p n x u h there en least whole m (isd_checked ∙ q)

  pub isd_moved : check_isd (state u) p isd_byte ≡ ok (state u) → Moved d T' p None
  isd_moved acc =
      let z₀ : p ≡ 0 = isd_first_lem acc in
      let h₀ : Holds d T 0 x u = rw z₀ at h in
      let ec : u.current ≡ none = first_current d T x u h₀ in
      let ed : u.described ≡ [] = first_described d T x u h₀ in
      let cl : closed u ≡ u.described = rw ec in
      let k : Holds d T' (p + n) None u =
      record {
        checking = rw isd_unfolds at (checking_on d T p n x u h there en least whole _ (isd_checked ∙ acc));
        unfolds = rw isd_unfolds at (unfolding_on d T p n x u h there en least whole);
        tables = tables_later d T'.starts T'.sizes T'.entries u.described p (p + n) (omega arith) (rw cl at tb);
        current = rw ec tt;
        last = rw (cl, ed) tt;
        there = omega arith;
      } in
      let held : Held d T' (p + n) None = (u, k) in
      record { held = rw en at held; least = omega arith }

-- a construct that is not carried
pub other_refused : (d : List ℕ) (T : Lists) (p n : ℕ) (x : Option Step) (u : Layouts) → Holds d T p x u → p < length d → n ≡ get_or d p 0 → 2 ≤ n
    → n ≤ length d - p → construct_of (take n (drop p d)) ≡ none → check_triplets begin (triplets d) ≡ refuse 3 p
unfolding check_triplet check_construct
other_refused d T p n x u h there en least whole q = refused_here d T p n x u h there en least whole 3 (rw q)
