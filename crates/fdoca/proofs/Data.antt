-- The walk over the data of an accepted descriptor, with rows to the end or without: the reasons that tell its answer, and the fields whose items it notes.
-- Assumes nothing.
use mathlib.Core.Path.{◌≡◌, refl, sym, ap, ◌∙◌}
use Prim.Native.Nat.{ℕ, ◌≤◌, ◌<◌}
use native.Mathlib.Omega.{arith}
use mathlib.Core.Bool.{false, true≢false}
use mathlib.Core.List.{List, [], ◌∷◌}
use mathlib.Core.Option.{Option, none, some}
use lib.Dec.{ltb}
use lib.ListN.{length, length-map}
use Rattle.fdoca.specs.Basics.{is_empty, Result, refuse, ok}
use Rattle.fdoca.specs.Triplet.{triplets, last_place}
use Rattle.fdoca.specs.Item.{Field}
use Rattle.fdoca.specs.Walk.{Note, walk, walk_rows, walk_by}
use Rattle.fdoca.specs.Check.{max_descriptor, begin, closed, check_triplets, last_count, is_endless, check}
use Rattle.fdoca.specs.Unfolding.{unfolded, repeated, endless}
use Rattle.fdoca.specs.Account.{Parts, Block}
use Rattle.fdoca.specs.Cover.{notes_of}
use Rattle.fdoca.specs.Reasons.{StartsAt, OfItems, with_passes, OfRows, Uses, whole_passes, Unfolds, as_it_is, and_passes, OfData, items, rows}
use Rattle.fdoca.proofs.Results.{IfOk, holds, bind_all, reject_all, always, ok_of}
use Rattle.fdoca.proofs.Count.{count_is_length}
use Rattle.fdoca.proofs.Limits.{at_most_4096}
use Rattle.fdoca.proofs.Cover.{walk_covers}
use Rattle.fdoca.proofs.Fields.{fields_good, rows_good}
use Rattle.fdoca.proofs.Blocks.{walk_complete, walk_sound}
use Rattle.fdoca.proofs.FirstReasons.{Told, refused, accepted, accepted_none, told_as}
use Rattle.fdoca.proofs.BlockRows.{items_first, items_none}
use Rattle.fdoca.proofs.Rows.{by_passes, Outcome, ended, spoiled, over, outcome}
use Rattle.fdoca.proofs.RowReasons.{none_of_ended, rows_told, one_number}

-- A repeated layout of an accepted descriptor takes data.
takes_data : (d : List ℕ) → IfOk (λ n. is_endless (repeated d) ≡ false) (check d)
unfolding check
takes_data d =
    reject_all (ltb max_descriptor (length d)) 1 0
    (λ h. bind_all (check_triplets begin (triplets d)) (always (check_triplets begin (triplets d)) (tt {0}))
    (λ st u. bind_all (last_count (length d) (closed st)) (always (last_count (length d) (closed st)) (tt {0}))
    (λ n u. reject_all (is_endless (repeated d)) 22 (last_place (triplets d)) (λ e. holds e))))

has_field : (l : List Field) → endless l ≡ false → is_empty l ≡ false
has_field [] e = absurd (true≢false e)
has_field (f ∷ l) e = refl

pub item_count : (fs : List Field) (s : List ℕ) (ns : List Note) → walk fs s ≡ ok ns → length ns ≡ length fs
item_count fs s ns e = sym (length-map ns (λ i. i.field)) ∙ ap length (walk_covers fs s ns e).fields

module _ (d : List ℕ) (n : ℕ) (e : check d ≡ ok n) where
  pub not_endless : (layout : List Field) → repeated d ≡ some layout → endless layout ≡ false
  not_endless layout r = rw r at (ok_of (rw e at (takes_data d)))

  pub few_before : length (unfolded d) ≤ 4096
  few_before = rw (count_is_length d n e) (at_most_4096 d n e)

  module _ (s : List ℕ) where
    -- without rows to the end
    pub items_told : Told (OfItems (unfolded d) s) (walk (unfolded d) s)
    items_told = go (walk (unfolded d) s) refl
      where
        go : (w : Result (List Note)) → walk (unfolded d) s ≡ w → Told (OfItems (unfolded d) s) w
        go (refuse m p) h = refused (items_first (unfolded d) s m p (fields_good d n e) h)
        go (ok ns) h = accepted (items_none (unfolded d) s ns (fields_good d n e) h)

    -- with rows to the end
    pub walk_rows_told : (layout : List Field) → repeated d ≡ some layout → Told (OfRows (unfolded d) layout s) (walk_rows (unfolded d) layout s)
    walk_rows_told layout r =
        rows_told (unfolded d) layout s (fields_good d n e) (rows_good d n e layout r) (has_field layout (not_endless layout r)) few_before

    -- The reasons of the data tell the walk's answer.
    pub data_told : Told (OfData d s) (walk_by (unfolded d) (repeated d) s)
    unfolding walk_by
    data_told = go (repeated d) refl
      where
        go : (o : Option (List Field)) → repeated d ≡ o → Told (OfData d s) (walk_by (unfolded d) o s)
        go none r = told_as (λ t m p x. items r x) (λ t m p x. back x) items_told
          where
            back : {t : List ℕ} {m p : ℕ} → OfData d s t m p → OfItems (unfolded d) s t m p
            back (items q x) = x
            back (rows q x) = absurd (let z : ◌≡◌ {A = ℕ} 0 1 = cc in let w : ⊥ = omega arith in w)
        go (some layout) r =
            told_as (λ t m p x. rows r x) (λ t m p x. back x) (walk_rows_told layout r)
          where
            back : {t : List ℕ} {m p : ℕ} → OfData d s t m p → OfRows (unfolded d) layout s t m p
            back (items q x) = absurd (let z : ◌≡◌ {A = ℕ} 0 1 = cc in let w : ⊥ = omega arith in w)
            back (rows {layout = other} q x) = let z : other ≡ layout = cc in rw z at x

    -- An accepted walk: it is the walk over the unfolding, with rows to the end with as many passes as use up the data.
    module _ (ns : List Note) where
      pub record WalkedBy : Type 0 where
        pub fields : List Field
        pub unfolds : Unfolds d fields
        pub walks : walk fields s ≡ ok ns
        pub few : length ns ≤ 4096
        pub among : (gs : List Field) (k q : ℕ) (f : Field) (rest : List ℕ) → Unfolds d gs → StartsAt gs s k f q rest → k < length fields
            → StartsAt fields s k f q rest
        pub used : (layout : List Field) (m : ℕ) → repeated d ≡ some layout → Uses (unfolded d) layout s m → m ≡ length ns
        pub uses : (layout : List Field) → repeated d ≡ some layout → Uses (unfolded d) layout s (length ns)
        pub plain : repeated d ≡ none → fields ≡ unfolded d

      same_layout : {l m : List Field} → repeated d ≡ some l → repeated d ≡ some m → l ≡ m
      same_layout a b = cc

      not_both : {l : List Field} {A : Type 0} → repeated d ≡ none → repeated d ≡ some l → A
      not_both a b = absurd (let z : ◌≡◌ {A = ℕ} 0 1 = cc in let w : ⊥ = omega arith in w)

      without_rows : repeated d ≡ none → walk (unfolded d) s ≡ ok ns → WalkedBy
      without_rows r w =
          record {
            fields = unfolded d;
            unfolds = as_it_is r;
            walks = w;
            few = rw (item_count (unfolded d) s ns w) few_before;
            among = λ gs k q f rest u x l. among u x;
            used = λ layout m q u. not_both r q;
            uses = λ layout q. not_both r q;
            plain = λ q. refl;
          }
        where
          among : {gs : List Field} {k q : ℕ} {f : Field} {rest : List ℕ} → Unfolds d gs → StartsAt gs s k f q rest → StartsAt (unfolded d) s k f q rest
          among (as_it_is q) x = x
          among (and_passes j q) x = not_both r q

      with_rows : (layout : List Field) → repeated d ≡ some layout → (j : ℕ) → walk (with_passes (unfolded d) layout j) s ≡ ok ns
          → length (with_passes (unfolded d) layout j) ≤ 4096 → WalkedBy
      with_rows layout r j w l =
          let c = item_count (with_passes (unfolded d) layout j) s ns w in
          record {
            fields = with_passes (unfolded d) layout j;
            unfolds = and_passes j r;
            walks = w;
            few = omega (arith, c);
            among = λ gs k q f rest u x h. among u x h;
            used = λ other m q u. sym (c ∙ same u (same_layout q r));
            uses = λ other q. rw (c, same_layout q r) (whole_passes j block_is);
            plain = λ q. not_both q r;
          }
        where
          block_is : Block (with_passes (unfolded d) layout j) (walk_sound (with_passes (unfolded d) layout j) s ns w).parts s
          block_is = (walk_sound (with_passes (unfolded d) layout j) s ns w).block

          same : {other : List Field} {m : ℕ} → Uses (unfolded d) other s m → other ≡ layout → length (with_passes (unfolded d) layout j) ≡ m
          same {other} (whole_passes {xs = xs} i b) q =
              let b' : Block (with_passes (unfolded d) layout i) xs s = rw q at b in
              let h = one_number (unfolded d) layout s (rows_good d n e layout r) (not_endless layout r) j i _ xs block_is b' in
              rw (h, q)

          among : {gs : List Field} {k q : ℕ} {f : Field} {rest : List ℕ} → Unfolds d gs → StartsAt gs s k f q rest
              → k < length (with_passes (unfolded d) layout j) → StartsAt (with_passes (unfolded d) layout j) s k f q rest
          among (as_it_is q) x h = not_both q r
          among (and_passes i q) x h = by_passes (unfolded d) layout j i (rw (same_layout q r) at x) h

      pub walked_by : walk_by (unfolded d) (repeated d) s ≡ ok ns → WalkedBy
      unfolding walk_by
      walked_by w = go (repeated d) refl w
        where
          of_outcome : (layout : List Field) → repeated d ≡ some layout → {x : Result (List Note)} → Outcome (unfolded d) layout s x → x ≡ ok ns → WalkedBy
          of_outcome layout r (ended {ns = ms} j v l) q = let z : ms ≡ ns = cc in with_rows layout r j (rw z at v) l
          of_outcome layout r (spoiled j x l c) q = absurd (let z : ◌≡◌ {A = ℕ} 0 1 = cc in let w : ⊥ = omega arith in w)
          of_outcome layout r (over j b f a c x l h o) q = absurd (let z : ◌≡◌ {A = ℕ} 0 1 = cc in let w : ⊥ = omega arith in w)

          go : (o : Option (List Field)) → repeated d ≡ o → walk_by (unfolded d) o s ≡ ok ns → WalkedBy
          go none r w = without_rows r w
          go (some layout) r w = of_outcome layout r (outcome (unfolded d) layout s (has_field layout (not_endless layout r)) few_before) w

    -- A block of the account, of the unfolding with any number of passes, is walked.
    pub block_walked : (fs : List Field) → Unfolds d fs → (xs : List Parts) → Block fs xs s → length fs ≤ 4096 → walk_by (unfolded d) (repeated d) s ≡ ok (notes_of 0 fs xs)
    unfolding walk_by
    block_walked fs (as_it_is r) xs b l = rw r (walk_complete (unfolded d) xs s b)
    block_walked fs (and_passes {rows = layout} j r) xs b l =
        let w : walk fs s ≡ ok (notes_of 0 fs xs) = walk_complete fs xs s b in
        let none_holds = none_of_ended (unfolded d) layout s (fields_good d n e) (rows_good d n e layout r) j (notes_of 0 fs xs) w l in
        let (ns, a) = (accepted_none (walk_rows (unfolded d) layout s) (walk_rows_told layout r)).1 none_holds in
        let x = walked_by ns (rw r a) in
        rw r (a ∙ ap ok (go layout r j ns x b w))
      where
        go : (layout : List Field) → repeated d ≡ some layout → (j : ℕ) (ns : List Note) → WalkedBy ns → Block (with_passes (unfolded d) layout j) xs s
            → walk (with_passes (unfolded d) layout j) s ≡ ok (notes_of 0 (with_passes (unfolded d) layout j) xs) → ns ≡ notes_of 0 (with_passes (unfolded d) layout j) xs
        go layout r j ns x b w = by_fields x.fields x.unfolds x.walks
          where
            by_fields : (gs : List Field) → Unfolds d gs → walk gs s ≡ ok ns → ns ≡ notes_of 0 (with_passes (unfolded d) layout j) xs
            by_fields gs (as_it_is q) v = not_both ns q r
            by_fields gs (and_passes {rows = other} i q) v =
                let z : other ≡ layout = same_layout ns q r in
                let u : walk (with_passes (unfolded d) layout i) s ≡ ok ns = rw z at v in
                let c = walk_sound (with_passes (unfolded d) layout i) s ns u in
                let o : i ≡ j = one_number (unfolded d) layout s (rows_good d n e layout r) (not_endless layout r) i j c.parts xs c.block b in
                let y : walk (with_passes (unfolded d) layout j) s ≡ ok ns = rw o at u in
                cc
