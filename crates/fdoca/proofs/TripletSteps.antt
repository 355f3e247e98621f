-- The check of a triplet, after triplets that have no reason: it is refused for its first reason in document 01's order, or has none, and then what is
-- kept agrees with the descriptor's bytes again.
-- Assumes nothing.
use Rattle.std.specs.Prelude.{if◌then◌else◌}
use mathlib.Core.Path.{◌≡◌, refl, sym, ap, ◌∙◌}
use mathlib.Core.Logic.{◌≢◌, ◌⊎◌, inl, inr}
use Prim.Native.Nat.{ℕ, zero, suc, ◌+◌, ◌*◌, ◌≤◌, ◌<◌}
use native.Mathlib.Omega.{arith}
use native.Mathlib.Nat.{zero-add}
use mathlib.Core.Bool.{Bool, true, false, not}
use mathlib.Core.List.{List, [], ◌∷◌}
use mathlib.Core.Option.{Option, none, some}
use lib.ListN.{length}
use lib.Dec.{ltb, eqb}
use borrow.Author.Tests.{ltb-true, ltb-false, eqb-true, eqb-false, not-true, not-false}
use Rattle.fdoca.specs.Basics.{lookup, is_some, product, Result, ok, ◌>>=◌}
use Rattle.fdoca.specs.Triplet.{Construct, constructs, Kind, rlo, gda, construct_of, id_of, code_of, extents_of, groups_of}
use Rattle.fdoca.specs.Triplet as T
use Rattle.fdoca.specs.Check as C
use Rattle.fdoca.specs.Check.{Entry, State, closed, close_row, is_described, good_length_sda, good_sda, good_length_row, good_length_isd, good_isd, max_items, add_groups, check_sda, check_row, check_cpt, check_isd, check_construct, check_triplet}
use Rattle.fdoca.specs.Reasons.{OneOf, here, there, place, length_byte, byte_of, NotTorn, There, sda_byte, rlo_byte, gda_byte, isd_byte, cpt_byte, Is, HasGroups, Describes, InRow, Refers, extent, one, two, three, Counts, row, UpTo, start, continued, OutOfSequence, cpt_first, cpt_after, isd_later, NameTaken, taken_by, TooManyItems, of_sda, OfTriplet, unknown_construct, out_of_sequence, bad_parameter, name_taken, too_many_items}
use Rattle.fdoca.proofs.Tests.{by_order}
use Rattle.fdoca.proofs.TripletBytes.{bytes_of, byte_bytes}
use Rattle.fdoca.proofs.Table.{looked_up}
use Rattle.fdoca.proofs.TripletTests.{Tells, clash, row_clash, no_describer, Extents, none_there, one_there, two_there, three_there, extents_are, sda_length, sda_forms, sda_long, sda_parameters, row_form, row_length, row_parameters, cpt_parameters, isd_length, isd_forms, isd_parameters}
use Rattle.fdoca.proofs.Counting.{Unique, up_in_row, count_same}
use Rattle.fdoca.proofs.TripletRows.{Clear, Judged, refused, passed, clear_more, by_row, row_4, row_5, row_6, row_7, no_8, no_9, row_10, own_clear, tells, in_row_kind, group_of_lem, none_left, whole_clear, known_clear}
use Rattle.fdoca.proofs.Groups.{EntryAt, of_single, of_array, of_row, entry_counts, kind_byte, Known, judge_groups}

-- What is kept of the row that a CPT may continue, before triplet j.
pub data Current (d : List ℕ) (j : ℕ) (es : List (ℕ × Entry)) : Option (ℕ × ℕ × Kind) → Type 0 where
  no_row : Known d j es → ((i : ℕ) → j ≡ suc i → OneOf (byte_of d i 1) (rlo_byte ∷ gda_byte ∷ cpt_byte ∷ []) → ⊥) → Current d j es none
  open_row : {r i k id n : ℕ} {kind : Kind} → j ≡ suc i → Is d (kind_byte kind) r → UpTo d r i (suc k) n → length_byte d i ≡ 3 + 3 * suc k → byte_of d r 2 ≡ id → Known d r es
      → Current d j es (some (id, n, kind))

-- What the check knows before triplet j.
pub record Before (d : List ℕ) (j : ℕ) (st : State) : Type 0 where
  pub whole : (i : ℕ) → i < j → NotTorn d i
  pub unique : Unique d j
  pub current : Current d j st.described st.current

-- one id more, described by triplet j
known_more : {d : List ℕ} {j id : ℕ} {x : Entry} {es : List (ℕ × Entry)} → Known d j es → Describes d id j → EntryAt d j x → Known d (suc j) ((id, x) ∷ es)
known_more {d} {j} {id} {x} {es} k h a =
    record { found = λ i e. found i e (eqb i id) refl; missed = λ i. missed i (eqb i id) refl }
  where
    found : (i : ℕ) (e : Entry) (b : Bool) → eqb i id ≡ b → (if b then some x else lookup i es) ≡ some e → (q : ℕ) × Refers d (suc j) i q × EntryAt d q e
    found i e true t q =
        let s : x ≡ e = cc in
        (j, record { earlier = omega arith; describes = rw (eqb-true i id t) h }, rw (← s) a)
    found i e false t q =
        let f = k.found i e q in
        (f.0, record { earlier = omega (arith, f.1.earlier); describes = f.1.describes }, f.2)

    missed : (i : ℕ) (b : Bool) → eqb i id ≡ b → (if b then some x else lookup i es) ≡ none → (q : ℕ) → Refers d (suc j) i q → ⊥
    missed i true t q u v = let z : ◌≡◌ {A = ℕ} 0 1 = cc in let w : ⊥ = omega arith in w
    missed i false t q u v =
        by_order u j (λ l. k.missed i q u (record { earlier = l; describes = v.describes }))
        (λ e. eqb-false i id t (sym v.describes.named ∙ ap (λ y. byte_of d y 2) e ∙ h.named))
        (λ l. let z : ⊥ = omega (arith, v.earlier) in z)

-- triplets that describe nothing
known_wider : {d : List ℕ} {a b : ℕ} {es : List (ℕ × Entry)} → Known d a es → a ≤ b → ((q id : ℕ) → a ≤ q → q < b → Describes d id q → ⊥) → Known d b es
known_wider {d} {a} {b} {es} k l n =
    record {
      found = λ i e q. (let f = k.found i e q in (f.0, record { earlier = omega (arith, f.1.earlier); describes = f.1.describes }, f.2));
      missed = λ i q u v. by_order u a (λ h. k.missed i q u (record { earlier = h; describes = v.describes }))
          (λ h. n u i (omega arith) v.earlier v.describes) (λ h. n u i (omega arith) v.earlier v.describes);
    }

unique_more : {d : List ℕ} {j : ℕ} → Unique d j → ((id q : ℕ) → q < j → Describes d id q → Describes d id j → ⊥) → Unique d (suc j)
unique_more {d} {j} x n id q u h k a b =
    by_order q j (λ l. by_order u j (λ m. x id q u l m a b) (λ e. absurd (n id q l a (rw e at b))) (λ m. absurd (let z : ⊥ = omega arith in z)))
    (λ e. by_order u j (λ m. absurd (n id u m b (rw e at a))) (λ f. e ∙ sym f) (λ m. absurd (let z : ⊥ = omega arith in z)))
    (λ l. absurd (let z : ⊥ = omega arith in z))

whole_more : {d : List ℕ} {j : ℕ} → ((i : ℕ) → i < j → NotTorn d i) → NotTorn d j → (i : ℕ) → i < suc j → NotTorn d i
whole_more {d} {j} f w i h = by_order i j (λ l. f i l) (λ e. rw e w) (λ l. absurd (let z : ⊥ = omega arith in z))

-- The ids that are described once the row before triplet j has ended.
pub closed_known : {d : List ℕ} {j : ℕ} {st : State} → Before d j st → (Is d cpt_byte j → ⊥) → Known d j (closed st)
closed_known {d} {j} {st} b n = go st.current b.current
  where
    go : (o : Option (ℕ × ℕ × Kind)) → Current d j st.described o → Known d j (close_row st.described o)
    go none (no_row k f) = k
    go (some (id, m, kind)) (open_row {r = r} {i = i} e is u l t k) =
        let h = up_in_row u in
        let x : Known d (suc r) ((id, C.row m) ∷ st.described) =
        known_more k (record { kind = inr h.head; named = t }) (of_row h.head (row u l (rw e at n))) in
        known_wider x (omega (arith, h.behind)) (λ q y g c z. no_describer (h.continued q g (omega arith)) (omega arith) (omega arith) (omega arith) z)

-- the first triplet stands at 0, and no other
place_first : (d : List ℕ) → place d 0 ≡ 0
unfolding place
place_first d = refl

place_later : {d : List ℕ} (j : ℕ) → 0 < j → ((i : ℕ) → i < j → NotTorn d i) → 0 < place d j
unfolding place
place_later zero h f = absurd (let z : ⊥ = omega arith in z)
place_later (suc i) h f = omega (arith, (f i (omega arith)).long)

-- the construct types that are carried
abbrev type_byte : Construct → ℕ
type_byte T.sda = sda_byte
type_byte T.isd = isd_byte
type_byte T.cpt = cpt_byte
type_byte (T.grouped kind) = kind_byte kind

construct_type : (n : ℕ) (x : Construct) → lookup n constructs ≡ some x → n ≡ type_byte x
construct_type n x h = eqb-true n (type_byte x) (looked_up (λ n x. eqb n (type_byte x)) n constructs x refl h)

known_type : {n : ℕ} → OneOf n (sda_byte ∷ rlo_byte ∷ gda_byte ∷ isd_byte ∷ cpt_byte ∷ []) → (x : Construct) × (lookup n constructs ≡ some x)
known_type (here e) = (T.sda, rw e)
known_type (there (here e)) = (T.grouped T.rlo, rw e)
known_type (there (there (here e))) = (T.grouped T.gda, rw e)
known_type (there (there (there (here e)))) = (T.isd, rw e)
known_type (there (there (there (there (here e))))) = (T.cpt, rw e)
known_type {n = n} (there (there (there (there (there x20))))) = elim x20 [ ]

-- a triplet of a kind has groups, and its type is one of those that a CPT may follow
headed : {d : List ℕ} {j : ℕ} (kind : Kind) → Is d (kind_byte kind) j → HasGroups d j
headed rlo i = inl i
headed gda i = inr i

kind_type : {d : List ℕ} {j : ℕ} (kind : Kind) → Is d (kind_byte kind) j → OneOf (byte_of d j 1) (rlo_byte ∷ gda_byte ∷ cpt_byte ∷ [])
kind_type rlo i = here i.type
kind_type gda i = there (here i.type)

kind_carried : {d : List ℕ} {j : ℕ} (kind : Kind) → Is d (kind_byte kind) j → OneOf (byte_of d j 1) (sda_byte ∷ rlo_byte ∷ gda_byte ∷ isd_byte ∷ cpt_byte ∷ [])
kind_carried rlo i = there (here i.type)
kind_carried gda i = there (there (here i.type))

-- and no other triplet has
not_followed : {d : List ℕ} {c j : ℕ} → Is d c j → c ≢ rlo_byte → c ≢ gda_byte → c ≢ cpt_byte → OneOf (byte_of d j 1) (rlo_byte ∷ gda_byte ∷ cpt_byte ∷ []) → ⊥
not_followed is a b e (here h) = a (sym is.type ∙ h)
not_followed is a b e (there (here h)) = b (sym is.type ∙ h)
not_followed is a b e (there (there (here h))) = e (sym is.type ∙ h)
not_followed {d = d} {c = c} {j = j} is a b e (there (there (there x12))) = elim x12 [ ]

-- a result that is taken further where there is no reason
bind_judged : {A B : Type 0} {d : List ℕ} {j : ℕ} {P : A → Type 0} {Q : B → Type 0} {x : Result A} (f : A → B) → Judged d j P x → ((a : A) → P a → Q (f a))
    → Judged d j Q (x >>= (λ a. ok (f a)))
bind_judged f (refused e r c) g = refused e r c
bind_judged f (passed {a = a} n p) g = passed n (g a p)

-- what is kept of an SDA
sda_entry : {d : List ℕ} {j code : ℕ} {xs : List ℕ} → Is d sda_byte j → code ≡ byte_of d j 3 → Extents d j xs → EntryAt d j (C.array code xs)
sda_entry i c (none_there e) = of_single i e c
sda_entry i c (one_there e) = of_array i (one e) refl
sda_entry {d} {j} i c (two_there e) = let q : extent d j 1 * 1 ≡ extent d j 1 = omega arith in of_array {xs = extent d j 1 ∷ []} i (rw q (two e)) refl
sda_entry {d} {j} i c (three_there e) = let q : extent d j 2 * 1 ≡ extent d j 2 = omega arith in of_array {xs = extent d j 1 ∷ extent d j 2 ∷ []} i (rw q (three e)) refl

-- THE CONSTRUCTS, after triplets with no reason.
module _ (d : List ℕ) (j : ℕ) (there_is : There d j) (w : NotTorn d j) where
  -- number 7: the id of an SDA, RLO or GDA
  name_told : (es : List (ℕ × Entry)) → Known d j es → Describes d (byte_of d j 2) j → id_of (bytes_of d j) ≡ byte_of d j 2
      → Tells (is_described (id_of (bytes_of d j)) es) (OfTriplet d j 0 7 7)
  name_told es k h e = tells name_taken row_7 (rw e (go (lookup (byte_of d j 2) es) refl))
    where
      free : lookup (byte_of d j 2) es ≡ none → NameTaken d j → ⊥
      free q (taken_by {q = u} a l b) = k.missed (byte_of d j 2) q u (record { earlier = l; describes = rw (← a.named) at b })

      go : (o : Option Entry) → lookup (byte_of d j 2) es ≡ o → Tells (is_some o) (NameTaken d j)
      go none q = record { yes = λ x. absurd (let z : ◌≡◌ {A = ℕ} 0 1 = cc in let w : ⊥ = omega arith in w); no = λ x. free q }
      go (some x) q =
          let f = k.found (byte_of d j 2) x q in
          record { yes = λ y. taken_by h f.1.earlier f.1.describes; no = λ y. absurd (let z : ◌≡◌ {A = ℕ} 0 1 = cc in let w : ⊥ = omega arith in w) }

  -- a construct that is always in sequence
  in_sequence : (Is d cpt_byte j → ⊥) → (Is d isd_byte j → ⊥) → OutOfSequence d j → ⊥
  in_sequence a b (cpt_first k e) = a k
  in_sequence a b (cpt_after k e n) = a k
  in_sequence a b (isd_later k e) = b k

  module _ (st : State) (before : Before d j st) (last : Bool) (at_end : Tells last (place d j + length_byte d j ≡ length d)) where
    -- An SDA.
    module _ (is : Is d sda_byte j) where
      sda_known : Known d j (closed st)
      sda_known = closed_known before (λ i. clash is i (omega arith))

      module _ (forms : OneOf (length_byte d j) (12 ∷ 14 ∷ 16 ∷ 18 ∷ [])) where
        sda_id : id_of (bytes_of d j) ≡ byte_of d j 2
        sda_id = byte_bytes d j w 2 (omega (arith, sda_long d j w is forms))

        sda_kept : EntryAt d j (C.array (code_of (bytes_of d j)) (extents_of (bytes_of d j)))
        sda_kept = sda_entry is (byte_bytes d j w 3 (omega (arith, sda_long d j w is forms))) (extents_are d j w forms)

        sda_named : Tells (is_described (id_of (bytes_of d j)) (closed st)) (OfTriplet d j 0 7 7)
        sda_named = name_told (closed st) sda_known (record { kind = inl is; named = refl }) sda_id

        sda_counted : Tells (ltb max_items (product (extents_of (bytes_of d j)))) (OfTriplet d j 0 10 10)
        sda_counted = tells too_many_items row_10 (record { yes = λ h. of_sda is counts (ltb-true max_items _ h); no = λ h. fits (ltb-false max_items (product (extents_of (bytes_of d j))) h) })
          where
            counts : Counts d j (product (extents_of (bytes_of d j)))
            counts = entry_counts sda_kept

            fits : product (extents_of (bytes_of d j)) ≤ max_items → TooManyItems d j → ⊥
            fits h (of_sda i c l) = let e = count_same before.unique counts c in let z : ⊥ = omega (arith, e) in z

        sda_next : is_described (id_of (bytes_of d j)) (closed st) ≡ false
            → Before d (suc j) (record { described = (id_of (bytes_of d j), C.array (code_of (bytes_of d j)) (extents_of (bytes_of d j))) ∷ closed st; current = none })
        sda_next h =
            record {
              whole = whole_more before.whole w;
              unique = unique_more before.unique (λ id q l a b. sda_named.no h (name_taken (taken_by b l a)));
              current =
                  no_row (known_more sda_known (record { kind = inl is; named = sym sda_id }) sda_kept)
                  (λ i e. let q : j ≡ i = omega arith in rw (← q) (not_followed is (omega arith) (omega arith) (omega arith)));
            }

      judge_sda : Judged d j (Before d (suc j)) (check_sda (closed st) (place d j) (bytes_of d j))
      unfolding check_sda
      judge_sda =
          by_row (not (good_length_sda (bytes_of d j))) (tells OfTriplet.bad_length row_5 (sda_length d j w is))
          (clear_more (known_clear w (here is.type)) (λ n r. in_sequence (λ i. clash is i (omega arith)) (λ i. clash is i (omega arith)) (row_4 r)))
          (λ h₅ c₆. by_row (not (good_sda (bytes_of d j))) (tells bad_parameter row_6 (sda_parameters d j w is (sda_forms d j w is h₅))) c₆
          (λ h₆ c₇. by_row (is_described (id_of (bytes_of d j)) (closed st)) (sda_named (sda_forms d j w is h₅)) c₇
          (λ h₇ c₈. by_row (ltb max_items (product (extents_of (bytes_of d j)))) (sda_counted (sda_forms d j w is h₅)) (clear_more (clear_more c₈ no_8) no_9)
          (λ h₁₀ c₁₁. passed (none_left (own_clear c₁₁) (λ i s m k r. no_group (group_of_lem r).1)) (sda_next (sda_forms d j w is h₅) h₇)))))
        where
          no_group : HasGroups d j ⊎ Is d cpt_byte j → ⊥
          no_group (inl i) = row_clash i is (omega arith) (omega arith)
          no_group (inr i) = clash is i (omega arith)

    -- An RLO or a GDA.
    module _ (kind : Kind) (is : Is d (kind_byte kind) j) where
      is_row : HasGroups d j
      is_row = headed kind is

      row_known : Known d j (closed st)
      row_known = closed_known before (λ i. row_clash is_row i (omega arith) (omega arith))

      module _ (k : ℕ) (form : length_byte d j ≡ 6 + 3 * k) where
        row_id : id_of (bytes_of d j) ≡ byte_of d j 2
        row_id = byte_bytes d j w 2 (omega arith)

        row_named : Tells (is_described (id_of (bytes_of d j)) (closed st)) (OfTriplet d j 0 7 7)
        row_named = name_told (closed st) row_known (record { kind = inr is_row; named = refl }) row_id

        row_next : {n : ℕ} → is_described (id_of (bytes_of d j)) (closed st) ≡ false → UpTo d j j (suc k) n
            → Before d (suc j) (record { described = closed st; current = some (id_of (bytes_of d j), n, kind) })
        row_next h u =
            record {
              whole = whole_more before.whole w;
              unique = unique_more before.unique (λ id q l a b. row_named.no h (name_taken (taken_by b l a)));
              current = open_row refl is u (omega arith) (sym row_id) row_known;
            }

        judge_rows : is_described (id_of (bytes_of d j)) (closed st) ≡ false → Clear d j 0 8
            → Judged d j (Before d (suc j))
            (add_groups kind last (place d j) (closed st) 0 (groups_of (bytes_of d j)) >>= (λ n. ok (record { described = closed st; current = some (id_of (bytes_of d j), n, kind) })))
        judge_rows h c =
            bind_judged (λ n. record { described = closed st; current = some (id_of (bytes_of d j), n, kind) })
            (judge_groups d j w j (record { head = is_row; behind = omega arith; continued = λ i a l. absurd (let z : ⊥ = omega arith in z) }) before.unique (closed st) row_known last at_end kind is (suc k) 0 0 (omega arith) (start is_row)
            (own_clear (clear_more (clear_more (clear_more c no_8) no_9) (λ n r. one_item (row_10 r)))))
            (λ n u. row_next h (rw (zero-add (suc k)) at u))
          where
            one_item : TooManyItems d j → ⊥
            one_item (of_sda i c l) = row_clash is_row i (omega arith) (omega arith)

      judge_row : Judged d j (Before d (suc j)) (check_row kind last (closed st) (place d j) (bytes_of d j))
      unfolding check_row
      judge_row =
          by_row (not (good_length_row (bytes_of d j))) (tells OfTriplet.bad_length row_5 (row_length d j w (kind_type kind is)))
          (clear_more (known_clear w (kind_carried kind is))
          (λ n r. in_sequence (λ i. row_clash is_row i (omega arith) (omega arith)) (λ i. row_clash is_row i (omega arith) (omega arith)) (row_4 r)))
          (λ h₅ c₆. (let f = row_form d j w h₅ in
          by_row (eqb (id_of (bytes_of d j)) 0) (tells bad_parameter row_6 (row_parameters d j w is_row (omega (arith, f.1)))) c₆
          (λ h₆ c₇. by_row (is_described (id_of (bytes_of d j)) (closed st)) (row_named f.0 f.1) c₇
          (λ h₇ c₈. judge_rows f.0 f.1 h₇ c₈))))

    -- A CPT: it continues the row at hand.
    module _ (is : Is d cpt_byte j) where
      cpt_clear : Clear d j 0 4
      cpt_clear = known_clear w (there (there (there (there (here is.type)))))

      -- right behind an RLO, a GDA or a CPT
      cpt_placed : {i r : ℕ} → j ≡ suc i → InRow d r i → OutOfSequence d j → ⊥
      cpt_placed e h (cpt_first k z) = omega arith
      cpt_placed {i} {r} e h (cpt_after {i = u} k z n) = let q : i ≡ u = omega arith in n (rw q at (followed (in_row_kind h)))
        where
          followed : HasGroups d i ⊎ Is d cpt_byte i → OneOf (byte_of d i 1) (rlo_byte ∷ gda_byte ∷ cpt_byte ∷ [])
          followed (inl (inl x)) = here x.type
          followed (inl (inr x)) = there (here x.type)
          followed (inr x) = there (there (here x.type))
      cpt_placed e h (isd_later k z) = clash is k (omega arith)

      cpt_none : Current d j st.described none → OutOfSequence d j
      cpt_none (no_row k f) = go j refl
        where
          go : (i : ℕ) → j ≡ i → OutOfSequence d j
          go zero e = cpt_first is e
          go (suc i) e = cpt_after is e (f i e)

      cpt_next : {id r n k : ℕ} {kind : Kind} → byte_of d r 2 ≡ id → Is d (kind_byte kind) r → Known d r st.described → length_byte d j ≡ 3 + 3 * suc k → UpTo d r j (suc k) n
          → Before d (suc j) (record { described = st.described; current = some (id, n, kind) })
      cpt_next t head k l u =
          record {
            whole = whole_more before.whole w;
            unique = unique_more before.unique (λ id q l a b. no_describer is (omega arith) (omega arith) (omega arith) b);
            current = open_row refl head u l t k;
          }

      judge_continued : {id n : ℕ} {kind : Kind} → Current d j st.described (some (id, n, kind)) → (k : ℕ) → length_byte d j ≡ 6 + 3 * k → Clear d j 0 7
          → Judged d j (Before d (suc j))
          (add_groups kind last (place d j) st.described n (groups_of (bytes_of d j)) >>= (λ m. ok (record { described = st.described; current = some (id, m, kind) })))
      judge_continued {id} {n} {kind} (open_row {r = r} {i = i} e head u l t known) k form c =
          bind_judged (λ m. record { described = st.described; current = some (id, m, kind) })
          (judge_groups d j w r (up_in_row v) (λ x q y h g. before.unique x q y (omega (arith, (up_in_row v).behind)) (omega (arith, (up_in_row v).behind))) st.described known last at_end kind head (suc k) 0 n (omega arith) v
          (own_clear (clear_more (clear_more (clear_more (clear_more c (λ n x. no_name (row_7 x))) no_8) no_9) (λ n x. one_item (row_10 x)))))
          (λ m x. cpt_next t head known (omega arith) (rw (zero-add (suc k)) at x))
        where
          v : UpTo d r j 0 n
          v = rw e (continued u l (rw e at is))

          no_name : NameTaken d j → ⊥
          no_name (taken_by a h b) = no_describer is (omega arith) (omega arith) (omega arith) a

          one_item : TooManyItems d j → ⊥
          one_item (of_sda i c l) = clash is i (omega arith)

      judge_current : (o : Option (ℕ × ℕ × Kind)) → Current d j st.described o
          → Judged d j (Before d (suc j)) (check_cpt last (record { described = st.described; current = o }) (place d j) (bytes_of d j))
      unfolding check_cpt
      judge_current none h = refused refl (out_of_sequence (cpt_none h)) cpt_clear
      judge_current (some (id, n, kind)) h =
          by_row (not (good_length_row (bytes_of d j))) (tells OfTriplet.bad_length row_5 (row_length d j w (there (there (here is.type)))))
          (clear_more cpt_clear (λ n x. placed h (row_4 x)))
          (λ h₅ c₆. (let f = row_form d j w h₅ in
          by_row (not (eqb (id_of (bytes_of d j)) 0)) (tells bad_parameter row_6 (cpt_parameters d j w is (omega (arith, f.1)))) c₆
          (λ h₆ c₇. judge_continued h f.0 f.1 c₇)))
        where
          placed : Current d j st.described (some (id, n, kind)) → OutOfSequence d j → ⊥
          placed (open_row e head u l t known) = cpt_placed e (up_in_row u)

      judge_cpt : Judged d j (Before d (suc j)) (check_cpt last st (place d j) (bytes_of d j))
      judge_cpt = judge_current st.current before.current

    -- An ISD is the first triplet.
    module _ (is : Is d isd_byte j) where
      isd_first : place d j ≡ 0 → j ≡ 0
      isd_first e = by_order j 0 (λ l. absurd (let z : ⊥ = omega arith in z)) (λ q. q) (λ l. absurd (let z : ⊥ = omega (arith, place_later j l before.whole) in z))

      isd_placed : Tells (not (eqb (place d j) 0)) (OfTriplet d j 0 4 4)
      isd_placed =
          tells out_of_sequence row_4
          (record {
            yes = λ h. isd_later is (λ e. eqb-false (place d j) 0 (not-true (eqb (place d j) 0) h) (rw e (place_first d)));
            no = λ h. first_of_all (isd_first (eqb-true (place d j) 0 (not-false (eqb (place d j) 0) h)));
          })
        where
          first_of_all : j ≡ 0 → OutOfSequence d j → ⊥
          first_of_all e (cpt_first k z) = clash is k (omega arith)
          first_of_all e (cpt_after k z n) = clash is k (omega arith)
          first_of_all e (isd_later k z) = z e

      isd_next : j ≡ 0 → Before d (suc j) st
      isd_next e =
          record {
            whole = whole_more before.whole w;
            unique = unique_more before.unique (λ id q l a b. no_describer is (omega arith) (omega arith) (omega arith) b);
            current = go st.current before.current;
          }
        where
          go : (o : Option (ℕ × ℕ × Kind)) → Current d j st.described o → Current d (suc j) st.described o
          go none (no_row k f) =
              no_row (known_wider k (omega arith) (λ q id a b x. (let y : q ≡ j = omega arith in no_describer is (omega arith) (omega arith) (omega arith) (rw y at x))))
              (λ i q. let y : j ≡ i = omega arith in rw (← y) (not_followed is (omega arith) (omega arith) (omega arith)))
          go (some (id, n, kind)) (open_row q head u l t k) = absurd (let z : ⊥ = omega arith in z)

      judge_isd : Judged d j (Before d (suc j)) (check_isd st (place d j) (bytes_of d j))
      unfolding check_isd
      judge_isd =
          by_row (not (eqb (place d j) 0)) isd_placed (known_clear w (there (there (there (here is.type)))))
          (λ h₄ c₅. by_row (not (good_length_isd (bytes_of d j))) (tells OfTriplet.bad_length row_5 (isd_length d j w is)) c₅
          (λ h₅ c₆. by_row (not (good_isd (bytes_of d j))) (tells bad_parameter row_6 (isd_parameters d j w is (isd_forms d j w is h₅))) c₆
          (λ h₆ c₇. passed
          (none_left (own_clear (clear_more (clear_more (clear_more (clear_more c₇ (λ n x. no_name (row_7 x))) no_8) no_9) (λ n x. one_item (row_10 x))))
          (λ i s m k r. no_group (group_of_lem r).1))
          (isd_next (isd_first (eqb-true (place d j) 0 (not-false (eqb (place d j) 0) h₄)))))))
        where
          no_name : NameTaken d j → ⊥
          no_name (taken_by a h b) = no_describer is (omega arith) (omega arith) (omega arith) a

          one_item : TooManyItems d j → ⊥
          one_item (of_sda i c l) = clash is i (omega arith)

          no_group : HasGroups d j ⊎ Is d cpt_byte j → ⊥
          no_group (inl i) = row_clash i is (omega arith) (omega arith)
          no_group (inr i) = clash is i (omega arith)

    -- by its construct type
    is_of : {x : Construct} → construct_of (bytes_of d j) ≡ some x → Is d (type_byte x) j
    is_of {x} e =
        record { there = there_is; type = construct_type (byte_of d j 1) x (rw (byte_bytes d j w 1 (omega (arith, w.long))) at e) }

    not_one : construct_of (bytes_of d j) ≡ none → OneOf (byte_of d j 1) (sda_byte ∷ rlo_byte ∷ gda_byte ∷ isd_byte ∷ cpt_byte ∷ []) → ⊥
    not_one e o =
        let h = known_type o in
        let k : lookup (byte_of d j 1) constructs ≡ none = rw (byte_bytes d j w 1 (omega (arith, w.long))) at e in
        let q : some h.0 ≡ none = sym h.1 ∙ k in
        let z : ◌≡◌ {A = ℕ} 0 1 = cc in
        let y : ⊥ = omega arith in
        y

    judge_construct : (o : Option Construct) → construct_of (bytes_of d j) ≡ o → Judged d j (Before d (suc j)) (check_construct o last st (place d j) (bytes_of d j))
    unfolding check_construct
    judge_construct none e = refused refl (unknown_construct (record { not_carried = not_one e })) (whole_clear w)
    judge_construct (some T.sda) e = judge_sda (is_of e)
    judge_construct (some (T.grouped kind)) e = judge_row kind (is_of e)
    judge_construct (some T.isd) e = judge_isd (is_of e)
    judge_construct (some T.cpt) e = judge_cpt (is_of e)

    -- A whole triplet.
    pub judge_triplet : Judged d j (Before d (suc j)) (check_triplet last st (T.triplet (place d j) (bytes_of d j)))
    unfolding check_triplet
    judge_triplet = judge_construct (construct_of (bytes_of d j)) refl
