-- The check of the groups of an RLO, a GDA or a CPT refuses the first one that has a reason, for its first reason, and counts the items of those that have none.
-- Assumes nothing.
use Rattle.std.specs.Prelude.{if◌then◌else◌}
use mathlib.Core.Path.{◌≡◌, refl, sym, ◌∙◌}
use mathlib.Core.Logic.{◌≢◌}
use Prim.Native.Nat.{ℕ, zero, suc, ◌+◌, ◌*◌, ◌≤◌, ◌<◌}
use native.Mathlib.Omega.{arith}
use mathlib.Core.Bool.{Bool, true, false, not, ◌&&◌, true≢false}
use mathlib.Core.List.{List, [], ◌∷◌}
use mathlib.Core.Option.{Option, none, some}
use lib.Dec.{ltb, eqb}
use lib.ListN.{length, drop}
use borrow.Author.Tests.{ltb-true, ltb-false, eqb-true, eqb-false, lt-ltb}
use Rattle.fdoca.specs.Basics.{lookup, is_empty, product, Result, ok, ◌>>=◌, ◌>>◌, reject, the}
use Rattle.fdoca.specs.FieldType.{replaces, type_of}
use Rattle.fdoca.specs.Triplet.{Kind, rlo, gda, threes}
use Rattle.fdoca.specs.Check as C
use Rattle.fdoca.specs.Check.{Entry, count_of, count_taken, suits_type, good_column, fits, max_items, count_added, add_group, add_groups}
use Rattle.fdoca.specs.Reasons as R
use Rattle.fdoca.specs.Reasons.{place, length_byte, byte_of, NotTorn, sda_byte, rlo_byte, gda_byte, Is, HasGroups, InRow, reference, byte1, byte2, taken, factor, EndsDescriptor, Refers, extent, Lower, Counts, single, array, row, Adds, kept, replaced, column, UpTo, group, missing, NotCarried, repetition_0, over_row, over_single, ColumnMisfit, no_sda, has_extents, bad_length, OfTriplet, missing_reference, not_carried, column_misfit, too_many_up_to}
use Rattle.fdoca.proofs.Tests.{and-true, and-false}
use Rattle.fdoca.proofs.TripletBytes.{bytes_of, group_of, groups_from, groups_end}
use Rattle.fdoca.proofs.TripletTests.{Tells, clash, row_clash}
use Rattle.fdoca.proofs.Counting.{Unique, up_in_row, one_row, up_to_same, lower_long}
use Rattle.fdoca.proofs.TripletRows.{Clear, Judged, refused, passed, clear_more, next_group, no_10, row_head, array_head, group_of_lem, none_left}
use Rattle.fdoca.proofs.TypeRows.{type_suits, suits_type_lem}

-- What the check keeps of the SDA, RLO or GDA q.
pub data EntryAt (d : List ℕ) (q : ℕ) : Entry → Type 0 where
  of_single : {code : ℕ} → Is d sda_byte q → length_byte d q ≡ 12 → code ≡ byte_of d q 3 → EntryAt d q (C.array code [])
  of_array : {code x : ℕ} {xs : List ℕ} → Is d sda_byte q → Lower d q (product xs) → x ≡ extent d q 0 → EntryAt d q (C.array code (x ∷ xs))
  of_row : {n : ℕ} → HasGroups d q → Counts d q n → EntryAt d q (C.row n)

pub entry_counts : {d : List ℕ} {q : ℕ} {e : Entry} → EntryAt d q e → Counts d q (count_of e)
entry_counts (of_single i e c) = single i e
entry_counts (of_array i l e) = rw e (array i l)
entry_counts (of_row i c) = c

-- The construct type of a kind.
abbrev pub kind_byte : Kind → ℕ
kind_byte rlo = rlo_byte
kind_byte gda = gda_byte

-- The entries es are those of the ids that the first b triplets describe.
pub record Known (d : List ℕ) (b : ℕ) (es : List (ℕ × Entry)) : Type 0 where
  pub found : (i : ℕ) (e : Entry) → lookup i es ≡ some e → (q : ℕ) × Refers d b i q × EntryAt d q e
  pub missed : (i : ℕ) → lookup i es ≡ none → (q : ℕ) → Refers d b i q → ⊥

-- The groups of triplet j, which belongs to the row of r.
module _ (d : List ℕ) (j : ℕ) (w : NotTorn d j) (r : ℕ) (in_row : InRow d r j) (unique : Unique d r) (es : List (ℕ × Entry)) (known : Known d r es) where
  -- group k with what it refers to
  module _ (k : ℕ) (inside : 6 + 3 * k ≤ length_byte d j) (q : ℕ) (refers : Refers d r (reference d j k) q) where
    same : {r' u : ℕ} → InRow d r' j → Refers d r' (reference d j k) u → q ≡ u
    same {r'} {u} i v =
        let h : Refers d r (reference d j k) u = rw (one_row i in_row) at v in
        unique (reference d j k) q u refers.earlier h.earlier refers.describes h.describes

    -- IN AN RLO elements taken can be had of the entry, or not
    taken_none : (t : ℕ) (e : Entry) → Is d rlo_byte r → taken d j k ≡ t → EntryAt d q e → count_taken t e ≡ none → NotCarried d j k
    taken_none zero e a t x h = absurd (let z : ◌≡◌ {A = ℕ} 0 1 = cc in let w : ⊥ = omega arith in w)
    taken_none (suc n) (C.array c []) a t (of_single i l m) h = over_single in_row a inside (omega arith) refers i l
    taken_none (suc n) (C.array c (x ∷ xs)) a t b h = absurd (let z : ◌≡◌ {A = ℕ} 0 1 = cc in let w : ⊥ = omega arith in w)
    taken_none (suc n) (C.row m) a t (of_row i c) h = over_row in_row a inside (omega arith) refers i

    taken_some : (t : ℕ) (e : Entry) (n : ℕ) → Is d rlo_byte r → taken d j k ≡ t → EntryAt d q e → count_taken t e ≡ some n → Adds d r j k (factor d j k * n)
    taken_some zero e n b t x h = let s : count_of e ≡ n = cc in kept b refers t (rw s at (entry_counts x))
    taken_some (suc a) (C.array c []) n b t x h = absurd (let z : ◌≡◌ {A = ℕ} 0 1 = cc in let w : ⊥ = omega arith in w)
    taken_some (suc a) (C.array c (x ∷ xs)) n b t (of_array i l e) h =
        let s : taken d j k * product xs ≡ n = rw t (cc) in
        rw (← s) (replaced b refers (omega arith) i l)
    taken_some (suc a) (C.row m) n b t x h = absurd (let z : ◌≡◌ {A = ℕ} 0 1 = cc in let w : ⊥ = omega arith in w)

    taken_of : (t : ℕ) (e : Entry) (n : ℕ) → 0 < t → EntryAt d q e → count_taken t e ≡ some n → Is d sda_byte q × (length_byte d q ≢ 12)
    taken_of zero e n l x h = absurd (let z : ⊥ = omega arith in z)
    taken_of (suc a) (C.array c []) n l x h = absurd (let z : ◌≡◌ {A = ℕ} 0 1 = cc in let w : ⊥ = omega arith in w)
    taken_of (suc a) (C.array c (y ∷ ys)) n l (of_array i m e) h = (i, lower_long m)
    taken_of (suc a) (C.row m) n l x h = absurd (let z : ◌≡◌ {A = ℕ} 0 1 = cc in let w : ⊥ = omega arith in w)

    -- a group with a repetition that is allowed and with elements to take is carried
    carried : (e : Entry) (n : ℕ) → EntryAt d q e → count_taken (taken d j k) e ≡ some n → (factor d j k ≡ 0 → (EndsDescriptor d j k → ⊥) → ⊥) → NotCarried d j k → ⊥
    carried e n x h f (repetition_0 i b g z o) = f z o
    carried e n x h f (over_row i b g l v c) = row_clash (rw (← same i v) at c) (taken_of (taken d j k) e n l x h).0 (omega arith) (omega arith)
    carried e n x h f (over_single i b g l v c z) = (taken_of (taken d j k) e n l x h).1 (rw (← same i v) at z)

    -- IN A GDA the length is good for the type of an SDA without extents, or not
    length_misfits : (b : Bool) (code : ℕ) → code ≡ byte_of d q 3 → Is d gda_byte r → Is d sda_byte q → replaces (byte1 d j k) (byte2 d j k) ≡ b
        → (if b then suits_type (type_of code) (byte1 d j k) (byte2 d j k) else true) ≡ false → ColumnMisfit d j k
    length_misfits true code c h i e f =
        bad_length in_row h inside refers i (ltb-true 0 _ e) (λ s. true≢false (sym (suits_type_lem (rw (← c) at s)) ∙ f))
    length_misfits false code c h i e f = absurd (true≢false f)

    misfits : (e : Entry) → Is d gda_byte r → EntryAt d q e → fits (group_of d j w k) e ≡ false → ColumnMisfit d j k
    unfolding good_column
    misfits (C.array code []) h (of_single i l c) f = length_misfits (replaces (byte1 d j k) (byte2 d j k)) code c h i refl f
    misfits (C.array code (x ∷ xs)) h (of_array i l c) f = has_extents in_row h inside refers i (lower_long l)
    misfits (C.row n) h (of_row i c) f = no_sda in_row h inside refers (λ x. row_clash i x (omega arith) (omega arith))

    fitting : (e : Entry) → EntryAt d q e → fits (group_of d j w k) e ≡ true → ColumnMisfit d j k → ⊥
    unfolding good_column
    fitting (C.array code []) (of_single i l c) f (no_sda a h g v n) = n (rw (same a v) at i)
    fitting (C.array code []) (of_single i l c) f (has_extents a h g v u n) = n (rw (same a v) at l)
    fitting (C.array code []) (of_single i l c) f (bad_length a h g v u p n) =
        n (rw (← same a v, ← c) (type_suits code (byte1 d j k) (byte2 d j k) (rw (lt-ltb 0 _ p) at f)))
    fitting (C.array code (x ∷ xs)) e f m = true≢false (sym f)
    fitting (C.row n) e f m = true≢false (sym f)

    -- the count with the group's items
    counted : (n m : ℕ) → UpTo d r j k n → Adds d r j k m → Tells (ltb max_items (n + m)) (OfTriplet d j (suc k) 11 10)
    counted n m u a =
        record {
          yes = λ h. too_many_up_to (R.of_row (group u inside a) (ltb-true max_items (n + m) h));
          no = λ h x. few (ltb-false max_items (n + m) h) x;
        }
      where
        too_many : {r' x : ℕ} → n + m ≤ max_items → UpTo d r' j (suc k) x → 4096 < x → ⊥
        too_many l v g =
            let e = up_to_same unique (group u inside a) (rw (one_row (up_in_row v) in_row) at v) in
            let z : ⊥ = omega (arith, e) in
            z

        few : n + m ≤ max_items → OfTriplet d j (suc k) 11 10 → ⊥
        few l (too_many_up_to (R.of_row v g)) = too_many l v g

  -- one group
  judge_group : (kind : Kind) → Is d (kind_byte kind) r → (ends : Bool) (k n : ℕ) (o : Option Entry) → Tells ends (EndsDescriptor d j k) → 6 + 3 * k ≤ length_byte d j → lookup (reference d j k) es ≡ o → UpTo d r j k n
      → Clear d j (suc k) 8 → {A : Type 0} {Q : A → Type 0} (f : ℕ → Result A) → ((m : ℕ) → UpTo d r j (suc k) m → Clear d j (suc k) 12 → Judged d j Q (f m))
      → Judged d j Q (add_group kind ends (place d j) n (group_of d j w k) o >>= f)
  unfolding add_group count_added
  judge_group kind head ends k n none told inside e u c f next = refused refl (missing_reference (missing in_row inside (known.missed (reference d j k) e))) c
  judge_group kind head ends k n (some x) told inside e u c {A} {Q} f next = by_kind kind head
    where
      q : ℕ
      q = (known.found (reference d j k) x e).0

      refers : Refers d r (reference d j k) q
      refers = (known.found (reference d j k) x e).1

      entry : EntryAt d q x
      entry = (known.found (reference d j k) x e).2

      not_missing : (m : ℕ) → OfTriplet d j (suc k) 8 m → ⊥
      not_missing m (missing_reference (missing i g none_there)) = none_there q (rw (one_row i in_row) refers)

      clear_9 : Clear d j (suc k) 9
      clear_9 = clear_more c not_missing

      carried_9 : Is d rlo_byte r → (NotCarried d j k → ⊥) → (m : ℕ) → OfTriplet d j (suc k) 9 m → ⊥
      carried_9 i z m (not_carried v) = z v
      carried_9 i z m (column_misfit v) = clash i (array_head in_row v) (omega arith)

      fitting_9 : Is d gda_byte r → (ColumnMisfit d j k → ⊥) → (m : ℕ) → OfTriplet d j (suc k) 9 m → ⊥
      fitting_9 i z m (not_carried v) = clash i (row_head in_row v) (omega arith)
      fitting_9 i z m (column_misfit v) = z v

      number_10 : {m : ℕ} → OfTriplet d j (suc k) 11 m → OfTriplet d j (suc k) 11 10
      number_10 (too_many_up_to v) = too_many_up_to v

      by_count : (m : ℕ) (b : Bool) → ltb max_items (n + m) ≡ b → Adds d r j k m → Clear d j (suc k) 10 → Judged d j Q ((reject b 10 (place d j) >> ok (n + m)) >>= f)
      by_count m true h a l = refused refl ((counted k inside q refers n m u a).yes h) (clear_more l no_10)
      by_count m false h a l = next (n + m) (group u inside a) (clear_more (clear_more l no_10) (λ y v. (counted k inside q refers n m u a).no h (number_10 v)))

      -- an RLO's group
      by_taken : (o : Option ℕ) → Is d rlo_byte r → (factor d j k ≡ 0 → (EndsDescriptor d j k → ⊥) → ⊥) → count_taken (taken d j k) x ≡ o
          → Judged d j Q
          (((the o 9 (place d j) >>= (λ m. ok (factor d j k * m))) >>= (λ m. reject (ltb max_items (n + m)) 10 (place d j) >> ok (n + m))) >>= f)
      by_taken none i z h = refused refl (not_carried (taken_none k inside q refers (taken d j k) x i refl entry h)) clear_9
      by_taken (some m) i z h =
          by_count (factor d j k * m) (ltb max_items (n + factor d j k * m)) refl (taken_some k inside q refers (taken d j k) x m i refl entry h)
          (clear_more clear_9 (carried_9 i (λ v. carried k inside q refers x m entry h z v)))

      by_factor : (b y : Bool) → Is d rlo_byte r → eqb (factor d j k) 0 ≡ b → ends ≡ y
          → Judged d j Q
          (((reject (b && not y) 9 (place d j) >> (the (count_taken (taken d j k) x) 9 (place d j) >>= (λ m. ok (factor d j k * m))))
          >>= (λ m. reject (ltb max_items (n + m)) 10 (place d j) >> ok (n + m)))
          >>= f)
      by_factor true false i h z = refused refl (not_carried (repetition_0 in_row i inside (eqb-true (factor d j k) 0 h) (told.no z))) clear_9
      by_factor true true i h z = by_taken (count_taken (taken d j k) x) i (λ a o. o (told.yes z)) refl
      by_factor false y i h z = by_taken (count_taken (taken d j k) x) i (λ a o. eqb-false (factor d j k) 0 h a) refl

      -- a GDA's group
      by_fit : (b : Bool) → Is d gda_byte r → fits (group_of d j w k) x ≡ b
          → Judged d j Q
          (((reject (not b) 21 (place d j) >> ok 1) >>= (λ m. reject (ltb max_items (n + m)) 10 (place d j) >> ok (n + m))) >>= f)
      by_fit true i h =
          by_count 1 (ltb max_items (n + 1)) refl (column i) (clear_more clear_9 (fitting_9 i (fitting k inside q refers x entry h)))
      by_fit false i h = refused refl (column_misfit (misfits k inside q refers x i entry h)) clear_9

      by_kind : (kind : Kind) → Is d (kind_byte kind) r → Judged d j Q (add_group kind ends (place d j) n (group_of d j w k) (some x) >>= f)
      by_kind rlo i = by_factor (eqb (factor d j k) 0) ends i refl refl
      by_kind gda i = by_fit (fits (group_of d j w k) x) i refl

  -- where triplet j may be the descriptor's last
  module _ (last : Bool) (at_end : Tells last (place d j + length_byte d j ≡ length d)) where
    ends_told : (m k : ℕ) → length_byte d j ≡ 3 + 3 * (k + suc m) → Tells (last && is_empty (threes (drop (3 + 3 * suc k) (bytes_of d j)))) (EndsDescriptor d j k)
    ends_told zero k e =
        rw (groups_end d j w (suc k) (omega arith), and-true last)
        (record { yes = λ h. omega (arith, at_end.yes h); no = λ h x. at_end.no h (omega arith) })
    ends_told (suc m) k e =
        rw (groups_from d j w (suc k) (omega arith), and-false last)
        (record { yes = λ h. absurd (true≢false (sym h)); no = λ h x. (let z : ⊥ = omega (arith, w.fits) in z) })

    -- The groups from number k on, m of them.
    pub judge_groups : (kind : Kind) → Is d (kind_byte kind) r → (m k n : ℕ) → length_byte d j ≡ 3 + 3 * (k + m) → UpTo d r j k n → Clear d j k 12
        → Judged d j (λ x. UpTo d r j (k + m) x) (add_groups kind last (place d j) es n (threes (drop (3 + 3 * k) (bytes_of d j))))
    unfolding add_groups
    judge_groups kind head zero k n e u c =
        let z : k + 0 ≡ k = omega arith in
        let no_group : (i s m : ℕ) → k ≤ i → OfTriplet d j (suc i) s m → ⊥ = λ i s m h v. (let x : ⊥ = omega (arith, (group_of_lem v).0) in x) in
        rw (groups_end d j w k (omega arith), z) (passed (none_left c no_group) u)
    judge_groups kind head (suc m) k n e u c =
        let z : k + suc m ≡ suc k + m = omega arith in
        rw (groups_from d j w k (omega arith), z)
        (judge_group kind head _ k n (lookup (reference d j k) es) (ends_told m k e) (omega arith) refl u (next_group c)
        (λ x. add_groups kind last (place d j) es x (threes (drop (3 + 3 * suc k) (bytes_of d j))))
        (λ x v l. judge_groups kind head m (suc k) x (omega arith) v l))
