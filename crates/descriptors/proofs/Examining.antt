-- The check from the first triplet to the last, and what an accepted descriptor leaves in the tables.
-- Assumes nothing.
use Rattle.std.specs.Prelude.{if◌then◌else◌}
use mathlib.Core.Path.{◌≡◌, refl, sym, ap, ◌∙◌, subst}
use Prim.Native.Nat.{ℕ, ◌+◌, ◌-◌, ◌≤◌, ◌<◌}
use native.Mathlib.Omega.{arith}
use native.Mathlib.Nat.{sub-zero}
use mathlib.Core.Bool.{Bool, true, false, not, ◌&&◌, true≢false}
use mathlib.Core.List.{List, [], ◌∷◌}
use mathlib.Core.Option.{none, some}
use mathlib.Core.Option as defined_option
use lib.Dec.{eqb}
use lib.ListN.{length, get_or, take, drop, replicate, length-replicate, get_or-replicate}
use borrow.Author.Tests.{lt-ltb, le-ltb, eq-eqb, ne_eqb}
use Rattle.std.specs.Prelude.{Option, Some, None, Result, Ok, Err, IsErrAnd, MatchResult}
use Rattle.std.proofs.lemmas.Result.{err_from_is_err_and}
use Rattle.fdoca.proofs.Returned.{reason_of-number_of}
use Rattle.tables.specs.Lists.{Lists}
use Rattle.fdoca.specs.declared.Reason.{Reason}
use Rattle.fdoca.specs.declared.Reason.TheVariants.{Oversize, NothingDescribed, Endless}
use Rattle.fdoca.specs.declared.Refusal.{Refusal}
use Rattle.fdoca.specs.Returned.{reason_of}
use Rattle.fdoca.specs.Basics.{is_some, lookup, refuse, ok, ◌>>=◌, ◌>>◌, reject}
use Rattle.fdoca.specs.Triplet.{triplet, triplets, last_place, Kind, rlo, gda, Group, taken}
use Rattle.fdoca.specs.Item.{Field}
use Rattle.fdoca.specs.Check.{check_triplets, last_count, is_endless, check}
use Rattle.fdoca.specs.Check as C
use Rattle.fdoca.specs.Unfolding.{Described, array, row, fields_of, fields_taken, Layouts, close_row, closed, unfold_triplets, start, last_fields, unfolded, last_group, rows_of, rows_at_end, repeated, endless}
use Rattle.fdoca.proofs.Triplets.{triplets_end, triplets_left, triplets_next}
use Rattle.fdoca.proofs.Ending.{last_cons}
use Rattle.fdoca.proofs.CheckRows.{repeats_described}
use Rattle.fdoca.proofs.Limits.{described_small}
use Rattle.fdoca.specs.Between.{triplets_at, entry, entries, state}
use Rattle.fdoca.proofs.Count.{entry?, lookup_entries, closed_state, length_fields_of}
use Rattle.rows.specs.Pass.{pass_list, PassAt, Room}
use Rattle.rows.proofs.Callers.{enough_room}
use Rattle.plans.specs.Writing.{group_at}
use Rattle.plans.specs.Tied.{kind_of, Takes, kind_at, Refers, RowAt, Kept, Tied, described_by, list_of, row_list}
use Rattle.descriptors.specs.declared.Row.{Row}
use Rattle.descriptors.specs.declared.Step.{Step}
use Rattle.descriptors.specs.declared.Examined.{Examined}
use Rattle.descriptors.specs.Holds.{RefersIn, RowIn, KeptIn, Tables, no_head, row_of, Current, Describes, Last, Holds, Held, ClosedRow, Moved, Advanced, LastAt, none_yet, behind, to_the_end, last_byte, Repeating, Ready, last_id, examined, Examination}
use Rattle.descriptors.proofs.Rows.{groups_map}
use Rattle.descriptors.proofs.Refs.{takes_of}

-- a refusal is no accepted descriptor
none_accepted : {P : Type 0} (w : Refusal) (x : Examined) → ◌≡◌ {A = Result Examined Refusal} (Err w) (Ok x) → P
none_accepted w x q = absurd (let y : ⊥ = cc in y)

-- a refusal that was given its place
pub placed_at : {A : Type 0} (Q : Reason → Refusal → Type 0) (a : Result A Reason) (r : Result A Refusal) (w : Refusal)
    → MatchResult a (λ x. r ≡ Ok x) (λ m. IsErrAnd r (Q m)) → r ≡ Err w → (m : Reason) × (a ≡ Err m) × Q m w
placed_at Q (Ok x) r w c q = absurd (let y : ⊥ = cc in y)
placed_at Q (Err m) r w c q =
    let e = err_from_is_err_and r c in
    let f : e.0 ≡ w = cc in
    (m, refl, subst (λ v. Q m v) f e.2)

pub taken_on : {A : Type 0} (Q : Reason → Refusal → Type 0) (a : Result A Reason) (r : Result A Refusal) (x : A)
    → MatchResult a (λ x. r ≡ Ok x) (λ m. IsErrAnd r (Q m)) → r ≡ Ok x → a ≡ Ok x
taken_on Q (Ok y) r x c q = let e : y ≡ x = cc in ap Ok e
taken_on Q (Err m) r x c q = let e = err_from_is_err_and r c in absurd (let y : ⊥ = cc in y)

pub oversized : (d s z e : List ℕ) (w : Refusal) (most : ℕ) → 4096 ≤ most → most < length d → w ≡ record { reason = Oversize; place = 0 } → Examination d s z e (Err w)
unfolding check reason_of
oversized d s z e w most m h q =
    record { result = rw (q, lt-ltb 4096 (length d) (omega arith)); ready = λ x k. none_accepted w x k }

-- before the first triplet
pub at_first : (d : List ℕ) (T : Lists) → T.starts ≡ replicate 256 65535 → T.sizes ≡ replicate 256 0 → T.entries ≡ replicate 256 0 → Held d T 0 None
at_first d T es ez ee =
    let h : Holds d T 0 None start =
    record {
      checking = rw (sub-zero (length d));
      unfolds = rw (sub-zero (length d));
      tables = record {
        agrees = λ i w. rw es (get_or-replicate 256 i 65535 0 w);
        placed = λ i D w. absurd (let y : ◌≡◌ {A = ℕ} 0 1 = cc in let v : ⊥ = omega arith in v);
        sizes = (ap length es ∙ long 65535, ap length ez ∙ long 0, ap length ee ∙ long 0);
      };
      current = tt;
      last = tt;
      there = omega arith;
    } in
    (start, h)
  where
    long : (v : ℕ) → length (replicate 256 v) ≡ 256
    long v = length-replicate 256 v

module _ (d : List ℕ) (T : Lists) (row : Option Row) (w : Repeating d T row) (b : Bool) (eb : b ≡ to_the_end row (last_byte d)) (t : b ≡ true) where
  pub pass_there : 3 ≤ length d
  pass_there = omega (arith, (w.pass (sym eb ∙ t)).inside)

  pub pass_known : PassAt d (length d - 3)
  pass_known = w.pass (sym eb ∙ t)

-- the place of the last triplet
pub first_last : (d : List ℕ) → LastAt d 0 0
first_last d = none_yet refl

module _ (d : List ℕ) (q p : ℕ) (l : LastAt d q p) where
  whole_at : (q : ℕ) → q < length d → 2 ≤ get_or d q 0 → q + get_or d q 0 ≤ length d → triplets_at d q ≡ triplet q (take (get_or d q 0) (drop q d)) ∷ triplets_at d (q + get_or d q 0)
  whole_at q h least fits = triplets_next d q h least fits

  pub last_next : (T : Lists) (x : Option Step) (n : ℕ) → Moved d T p x → p < length d → n ≡ get_or d p 0 → LastAt d p (p + n)
  last_next T x n a h en = behind (go l) h a.least (rw en) (rw en a.held.1.there)
    where
      go : LastAt d q p → last_place (triplets d) ≡ last_place (triplets_at d p)
      go (none_yet o) = rw o (rw (sub-zero (length d)))
      go (behind f i m o t) = f ∙ rw (whole_at q i m (omega arith), ← o) (last_cons (triplet q (take (get_or d q 0) (drop q d))) (triplets_at d p) (triplets_left d p h))

  pub last_end : 0 < p → length d ≤ p → last_place (triplets d) ≡ q
  last_end h all = go l
    where
      go : LastAt d q p → last_place (triplets d) ≡ q
      go (none_yet o) = absurd (let z : ⊥ = omega arith in z)
      go (behind f i m o t) = f ∙ rw (whole_at q i m (omega arith), ← o, triplets_end d p all)

pub stopped : (d : List ℕ) (T : Lists) (p : ℕ) (w : Refusal) (m : Reason) → length d ≤ 4096 → Advanced d T p (Err m) → w ≡ record { reason = m; place = p }
    → Examination d T.starts T.sizes T.entries (Err w)
unfolding check
stopped d T p w m small a q =
    record { result = rw (q, le-ltb 4096 (length d) small, a, reason_of-number_of m); ready = λ x k. none_accepted w x k }

module _ (d : List ℕ) (T : Lists) (p : ℕ) (x : Option Step) where
  -- from one triplet to the next
  pub at_next : Moved d T p x → (n : ℕ) → n ≡ get_or d p 0 → Held d T (p + n) x
  at_next a n en = rw en a.held

  -- behind the last triplet
  module _ (held : Held d T p x) (all : length d ≤ p) (small : length d ≤ 4096) where
    abbrev u : Layouts
    u = held.0

    abbrev h : Holds d T p x u
    h = held.1

    checked_all : check_triplets C.begin (triplets d) ≡ ok (state u)
    unfolding check_triplets
    checked_all = h.checking ∙ rw (triplets_end d p all)

    unfolded_all : unfold_triplets start (triplets d) ≡ u
    unfolding unfold_triplets
    unfolded_all = h.unfolds ∙ rw (triplets_end d p all)

    the_check : check d ≡ (last_count (length d) (entries (closed u)) >>= (λ n. reject (is_endless (repeated d)) 22 (last_place (triplets d)) >> ok n))
    unfolding check
    the_check = rw (le-ltb 4096 (length d) small, checked_all, closed_state u)

    all_described : described_by d ≡ closed u
    unfolding described_by
    all_described = rw unfolded_all

    pub nothing : (w : Refusal) → x ≡ None → w ≡ record { reason = NothingDescribed; place = p } → Examination d T.starts T.sizes T.entries (Err w)
    unfolding reason_of
    nothing w n q =
        record { result = rw (q, the_check) (go (closed u) (subst (λ v. Last v (closed u)) n h.last)); ready = λ x k. none_accepted w x k }
      where
        go : (ds : List (ℕ × Described)) → Last None ds
            → Err (record { reason = NothingDescribed; place = p })
            ≡ examined (last_count (length d) (entries ds) >>= (λ n. reject (is_endless (repeated d)) 22 (last_place (triplets d)) >> ok n)) (described_by d) (repeated d)
        go [] l = let m : p ≡ length d = omega (arith, h.there) in rw m
        go (c ∷ ds) l = absurd l

    module _ (T' : Lists) (y : Step) (ex : x ≡ Some y) (cl : ClosedRow d T T' p (Some y)) where
      tables : Tables d T'.starts T'.sizes T'.entries (closed u) p
      tables = cl.tables u (subst (λ v. Holds d T p v u) ex h) (no_head (omega arith))

      refers_all : (kind : Kind) (q : ℕ) (g : Group) → RefersIn kind T'.starts (closed u) q g → Refers kind d T'.starts q g
      refers_all kind q g w =
          record { to = w.to; known = rw all_described w.known; back = w.back; id_fits = w.id_fits; makes = w.makes }

      row_at : (q : ℕ) (l : List Field) → RowIn d T'.starts (closed u) q l → RowAt d T'.starts q l
      unfolding row_list
      row_at q l w =
          record {
            head = w.head;
            fields = rw all_described w.fields;
            groups = groups_map (λ g k. refers_all (kind_at d q) q g k) (get_or d q 0 - 3) (drop (q + 3) d) w.groups;
          }

      kept_all : (i : ℕ) (D : Described) → KeptIn d T'.starts T'.sizes T'.entries (closed u) i D → Kept d T'.starts T'.sizes T'.entries i D
      kept_all i (array f xs) k = k
      kept_all i (row l) k = record { unmarked = k.unmarked; made = row_at (get_or T'.starts i 0) l k.made }

      tied : Tied d T'.starts T'.sizes T'.entries
      tied = record { small = small; each = λ i D q. kept_all i D (tables.placed i D (rw all_described at q)).kept }

      last : Last (Some y) (closed u)
      last = subst (λ v. Last v (closed u)) ex h.last

      current : Current d T.starts u.described p y.row u.current
      current = subst (λ v. Current d T.starts u.described p v u.current) (ap row_of ex) h.current

      -- the last described id
      record LastOf : Type 0 where
        what : Described
        is_first : lookup y.id (closed u) ≡ some what
        describes : Describes y (last_id (closed u)) what
        unfolds_to : last_fields (closed u) ≡ fields_of what
        checks_to : last_count (length d) (entries (closed u)) ≡ ok (length (fields_of what))
        before : 0 < p

      last_of : LastOf
      last_of = go (closed u) refl last
        where
          go : (ds : List (ℕ × Described)) → closed u ≡ ds → Last (Some y) ds → LastOf
          go [] q l = absurd l
          go (c ∷ ds) q l =
              let f : eqb y.id c.0 ≡ true = eq-eqb y.id c.0 l.same_id in
              let k : lookup c.0 (closed u) ≡ some c.1 = rw (q, eq-eqb c.0 c.0 refl) in
              record {
                what = c.1;
                is_first = rw (q, f);
                describes = rw q l;
                unfolds_to = rw q;
                checks_to = rw q (ap ok (sym (length_fields_of c.1)));
                before = omega (arith, (tables.placed c.0 c.1 k).before);
              }

      -- whether the last group repeats to the end
      rows_by : (w : Option Row) (o : defined_option.Option (ℕ × List Field × Kind)) → Current d T.starts u.described p w o
          → to_the_end w (last_byte d) ≡ is_some (rows_at_end o u.described (last_group d))
      unfolding kind_of
      rows_by None none c = refl
      rows_by None (some v) c = absurd c
      rows_by (Some r) none c = absurd c
      rows_by (Some r) (some v) c = rw (← c.same_kind) (go (eqb r.head 0x75) refl)
        where
          by_factor : (b : Bool) (l : List Field) → b ≡ is_some (if b then some l else none)
          by_factor true l = refl
          by_factor false l = refl

          go : (b : Bool) → eqb r.head 0x75 ≡ b → (not b && eqb (last_byte d) 0) ≡ is_some (rows_of (if b then gda else rlo) u.described (last_group d))
          go true e = refl
          go false e = by_factor (eqb (last_byte d) 0) _

      rows_told : to_the_end y.row (last_byte d) ≡ is_some (repeated d)
      unfolding repeated
      rows_told = rw unfolded_all (rows_by y.row u.current current)

      -- the last group, where it repeats to the end
      record Refers-to : Type 0 where
        what : Described
        is_known : lookup (last_group d).ref (closed u) ≡ some what
        takes : Takes (taken (last_group d)) what
        few : length (fields_of what) ≤ 4096
        layout : repeated d ≡ some (fields_taken (taken (last_group d)) what)
        long : 3 ≤ length d

      refers_to : (rows : List Field) → repeated d ≡ some rows → Refers-to
      unfolding repeated
      refers_to rows r =
          let w = repeats_described d u unfolded_all checked_all rows r in
          let k : lookup (last_group d).ref (entries u.described) ≡ some (entry w.to) = lookup_entries (last_group d).ref u.described ∙ ap entry? w.described in
          record {
            what = w.to;
            is_known = not_own w.to w.described y.row u.current current;
            takes = takes_of (taken (last_group d)) w.count w.to w.takes;
            few = rw (length_fields_of w.to) (described_small d (state u) checked_all (last_group d).ref (entry w.to) k);
            layout = r ∙ ap some w.layout;
            long = long_enough y.row u.current current (rw unfolded_all at (repeated_at rows r));
          }
        where
          repeated_at : (rows : List Field) → repeated d ≡ some rows
              → rows_at_end (unfold_triplets start (triplets d)).current (unfold_triplets start (triplets d)).described (last_group d) ≡ some rows
          repeated_at rows r = r

          not_own : (D : Described) → lookup (last_group d).ref u.described ≡ some D → (w : Option Row) (o : defined_option.Option (ℕ × List Field × Kind)) → Current d T.starts u.described p w o
              → lookup (last_group d).ref (close_row u.described o) ≡ some D
          not_own D f w none c = f
          not_own D f None (some v) c = absurd c
          not_own D f (Some r) (some v) c = rw (ne_eqb (last_group d).ref v.0 (λ w. clash (rw w at f))) f
            where
              clash : lookup v.0 u.described ≡ some D → ⊥
              clash k = let w : lookup v.0 u.described ≡ none = c.free in let z : ◌≡◌ {A = ℕ} 0 1 = cc in let y : ⊥ = omega arith in y

          long_enough : {rows : List Field} (w : Option Row) (o : defined_option.Option (ℕ × List Field × Kind)) → Current d T.starts u.described p w o
              → rows_at_end o u.described (last_group d) ≡ some rows → 3 ≤ length d
          long_enough w none c q = absurd (let z : ◌≡◌ {A = ℕ} 0 1 = cc in let w : ⊥ = omega arith in w)
          long_enough None (some v) c q = absurd c
          long_enough (Some r) (some v) c q = omega (arith, c.so_far.long, c.so_far.before, h.there)

      some_rows : to_the_end y.row (last_byte d) ≡ true → (rows : List Field) × (repeated d ≡ some rows)
      some_rows t = go (repeated d) refl (sym rows_told ∙ t)
        where
          go : (o : defined_option.Option (List Field)) → repeated d ≡ o → is_some o ≡ true → (rows : List Field) × (repeated d ≡ some rows)
          go none e k = absurd (true≢false (sym k))
          go (some rows) e k = (rows, e)

      module _ (t : to_the_end y.row (last_byte d) ≡ true) where
        last_group_lem : Refers-to
        last_group_lem = let (rows, r) = some_rows t in refers_to rows r

        at_last : group_at d (length d - 3) ≡ last_group d
        unfolding group_at
        at_last =
            let a : length d - 3 + 1 ≡ length d - 2 = omega (arith, last_group_lem.long) in
            let b : length d - 3 + 2 ≡ length d - 1 = omega (arith, last_group_lem.long) in
            rw (a, b)

        abbrev last_pass : PassAt d (length d - 3)
        last_pass =
            record {
              inside = omega (arith, last_group_lem.long);
              to = last_group_lem.what;
              known = rw (at_last, all_described) last_group_lem.is_known;
              takes = rw at_last last_group_lem.takes;
            }

        pass_repeats : repeated d ≡ some (pass_list d (length d - 3))
        unfolding pass_list
        pass_repeats = last_group_lem.layout ∙ rw (at_last, all_described, last_group_lem.is_known)

        pass_room : Room d T'.entries (length d - 3) 4096
        pass_room = enough_room d T'.starts T'.sizes T'.entries tied (length d - 3) last_pass 4096 last_group_lem.few

      -- bytes are there, where something is described
      pub some_there : 0 < length d
      some_there = omega (arith, last_of.before, h.there)

      pub repeating : Repeating d T' y.row
      repeating = record { some_there = some_there; tied = record { sizes = T'.sizes; tied = tied }; pass = λ t. last_pass t }

      checks_on : (b : Bool) → is_endless (repeated d) ≡ b → check d ≡ (reject b 22 (last_place (triplets d)) >> ok y.count)
      checks_on b e = the_check ∙ rw (last_of.checks_to, e, ← last_of.describes.counted)

      endless_is : is_endless (repeated d) ≡ (to_the_end y.row (last_byte d) && endless (pass_list d (length d - 3)))
      endless_is = go (to_the_end y.row (last_byte d)) refl
        where
          go : (b : Bool) → to_the_end y.row (last_byte d) ≡ b → is_endless (repeated d) ≡ (b && endless (pass_list d (length d - 3)))
          go true t = rw (pass_repeats t)
          go false t = none_is (repeated d) refl (sym rows_told ∙ t)
            where
              none_is : (o : defined_option.Option (List Field)) → repeated d ≡ o → is_some o ≡ false → is_endless (repeated d) ≡ false
              none_is none e k = rw e
              none_is (some rows) e k = absurd (true≢false k)

      pub endless_end : (q : ℕ) (w : Refusal) (b : Bool) → LastAt d q p → b ≡ (to_the_end y.row (last_byte d) && endless (pass_list d (length d - 3))) → b ≡ true
          → w ≡ record { reason = Endless; place = q } → Examination d T'.starts T'.sizes T'.entries (Err w)
      unfolding reason_of
      endless_end q w b l eb t ew =
          let c : check d ≡ refuse 22 q = checks_on true (endless_is ∙ sym eb ∙ t) ∙ ap (refuse 22) (last_end d q p l last_of.before all) in
          record { result = rw (ew, c); ready = λ x n. none_accepted w x n }

      pub finished : (b rows : Bool) → b ≡ (to_the_end y.row (last_byte d) && endless (pass_list d (length d - 3))) → b ≡ false
          → rows ≡ to_the_end y.row (last_byte d) → Examination d T'.starts T'.sizes T'.entries (Ok (record { items = y.count; id = y.id; rows = rows }))
      unfolding list_of unfolded
      finished b rows eb t er =
          let w : LastOf = last_of in
          let eu : unfolded d ≡ fields_of w.what = rw unfolded_all w.unfolds_to in
          let ac : check d ≡ ok y.count = checks_on false (endless_is ∙ sym eb ∙ t) in
          let rd : Ready d T'.starts T'.sizes T'.entries y.id y.count rows =
          record {
            tied = tied;
            known = record { what = w.what; known = rw all_described w.is_first };
            whole = eu ∙ rw (all_described, w.is_first);
            accepted = ac;
            count = w.describes.counted ∙ ap length (sym eu);
            small = w.describes.small;
            no_rows = λ n. none_there (repeated d) (sym rows_told ∙ sym er ∙ n);
            repeats = λ n. pass_repeats (sym er ∙ n);
            pass = λ n. last_pass (sym er ∙ n);
            room = λ n. pass_room (sym er ∙ n);
          } in
          record { result = rw (ac, all_described, ← w.describes.same_id, er, rows_told); ready = λ v n. ready_of v n rd }
        where
          ready_of : (v : Examined) → ◌≡◌ {A = Result Examined Refusal} (Ok (record { items = y.count; id = y.id; rows = rows })) (Ok v)
              → Ready d T'.starts T'.sizes T'.entries y.id y.count rows → Ready d T'.starts T'.sizes T'.entries v.id v.items v.rows
          ready_of v n rd =
              let f : ◌≡◌ {A = Examined} (record { items = y.count; id = y.id; rows = rows }) v = cc in
              subst (λ (v : Examined). Ready d T'.starts T'.sizes T'.entries v.id v.items v.rows) f rd

          none_there : (o : defined_option.Option (List Field)) → is_some o ≡ false → o ≡ none
          none_there none n = refl
          none_there (some l) n = absurd (true≢false n)
