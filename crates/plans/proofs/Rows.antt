-- The groups of an RLO or a GDA and of its CPTs, as the iterator gives them; and the loop of `expand`.
-- Assumes nothing.
use Rattle.std.specs.Prelude.{if◌then◌else◌}
use mathlib.Core.Bool.{Bool, true, false}
use lib.Dec.{ltb, eqb}
use mathlib.Core.Path.{◌≡◌, refl, sym, ap, ◌∙◌, subst}
use mathlib.Core.List.{List, [], ◌∷◌, ◌++◌, map, map-append, append-nil, append_assoc}
use Prim.Native.Nat.{ℕ, suc, ◌+◌, ◌-◌, ◌≤◌, ◌<◌}
use native.Mathlib.Numerals.{add-one, add-two, add-three}
use native.Mathlib.Omega.{arith}
use borrow.Author.Tests.{lt-ltb, le-ltb, eq-eqb, ne_eqb}
use lib.ListN.{length, get_or, take, drop, length-append, length-map}
use Rattle.std.proofs.lemmas.List.{take_rest}
use lib.Seq.{sets, length-sets, drop-cons}
use Rattle.fdoca.specs.Triplet.{Kind, Group}
use Rattle.fdoca.specs.Item.{Field}
use Rattle.fdoca.specs.Unfolding.{Described, group_fields, add_fields}
use Rattle.fields.specs.Plan.{entry_of}
use Rattle.plans.specs.Tied.{described_by, groups_in, kind_of, kind_at, groups_at, row_list, case_of, Groups, Refers, RowAt}
use Rattle.plans.specs.Writing.{group_list}
use Rattle.plans.proofs.Lists.{sets_append}

-- ---- groups in bytes, three at a time

three : (d : List ℕ) (g : ℕ) → g + 3 ≤ length d → drop g d ≡ get_or d g 0 ∷ get_or d (g + 1) 0 ∷ get_or d (g + 2) 0 ∷ drop (g + 3) d
three d g h =
    rw (add-three, add-two, add-one)
    (rw (drop-cons d g 0 (omega arith), drop-cons d (suc g) 0 (omega arith), drop-cons d (suc (suc g)) 0 (omega arith)))

pub too_short : (n : ℕ) (l : List ℕ) → length l < 3 → groups_in n l ≡ []
unfolding groups_in
too_short n [] h = refl
too_short n (a ∷ []) h = refl
too_short n (a ∷ b ∷ []) h = refl
too_short n (a ∷ b ∷ c ∷ l) h = absurd (omega arith)

module _ (n a b c : ℕ) (l : List ℕ) where
  first_group : 0 < n → groups_in n (a ∷ b ∷ c ∷ l) ≡ record { ref = a; byte1 = b; byte2 = c } ∷ groups_in (n - 3) l
  unfolding groups_in
  first_group h = simp (lt-ltb _ _ h)

  behind_head : n ≤ 0 → b ≡ 0x7F → groups_in n (a ∷ b ∷ c ∷ l) ≡ groups_in (a - 3) l
  unfolding groups_in
  behind_head h e = simp (le-ltb _ _ h, eq-eqb _ _ e)

  no_more : n ≤ 0 → (b ≡ 0x7F → ⊥) → groups_in n (a ∷ b ∷ c ∷ l) ≡ []
  unfolding groups_in
  no_more h e = simp (le-ltb _ _ h, ne_eqb _ _ e)

-- each of the groups in bytes has the property
abbrev pub Each : (Group → Type 0) → List Group → Type 0
Each P [] = Unit {0}
Each P (g ∷ gs) = P g × Each P gs

each_in : (P : Group → Type 0) (n : ℕ) (l : List ℕ) → Groups P n l → Each P (groups_in n l)
unfolding Groups groups_in
each_in P n [] r = tt
each_in P n (a ∷ []) r = tt
each_in P n (a ∷ b ∷ []) r = tt
each_in P n (a ∷ b ∷ c ∷ l) r = go (ltb 0 n) (eqb b 0x7F) r (each_in P (n - 3) l) (each_in P (a - 3) l)
  where
    go : (u v : Bool) → case_of u (P (record { ref = a; byte1 = b; byte2 = c }) × Groups P (n - 3) l) (case_of v (Groups P (a - 3) l) (Unit {0}))
        → (Groups P (n - 3) l → Each P (groups_in (n - 3) l)) → (Groups P (a - 3) l → Each P (groups_in (a - 3) l))
        → Each P (if u then record { ref = a; byte1 = b; byte2 = c } ∷ groups_in (n - 3) l else if v then groups_in (a - 3) l else [])
    go true v r x y = (r.0, x r.1)
    go false true r x y = y r
    go false false r x y = tt

-- ---- the same by the places of the bytes, as `next` reads them: of s, with n bytes of the triplet's own

module _ (s : List ℕ) (n : ℕ) (h : 3 ≤ length s) where
  abbrev others : List ℕ
  others = take (length s - 3) (drop 3 s)

  pub first_left : (n ≡ 0 → ⊥) → (m : ℕ) → m ≡ n - 3
      → groups_in n s ≡ record { ref = get_or s 0 0; byte1 = get_or s 1 0; byte2 = get_or s 2 0 } ∷ groups_in m others
  first_left k m e =
      ap (groups_in n) (three s 0 h)
      ∙ first_group n _ _ _ _ (omega arith)
      ∙ ap (λ (t : List ℕ). record { ref = get_or s 0 0; byte1 = get_or s 1 0; byte2 = get_or s 2 0 } ∷ groups_in (n - 3) t) (sym (take_rest s 3))
      ∙ ap (λ (k : ℕ). record { ref = get_or s 0 0; byte1 = get_or s 1 0; byte2 = get_or s 2 0 } ∷ groups_in k others) (sym e)

  module _ (k : n ≡ 0) where
    pub head_left : get_or s 1 0 ≡ 0x7F → (a m : ℕ) → a ≡ get_or s 0 0 → m ≡ a - 3 → groups_in n s ≡ groups_in m others
    head_left c a m ea e =
        ap (groups_in n) (three s 0 h)
        ∙ behind_head n _ _ _ _ (omega arith) c
        ∙ ap (groups_in (get_or s 0 0 - 3)) (sym (take_rest s 3))
        ∙ ap (λ (j : ℕ). groups_in j others) (omega arith)

    pub none_left : (get_or s 1 0 ≡ 0x7F → ⊥) → groups_in n s ≡ []
    none_left c = ap (groups_in n) (three s 0 h) ∙ no_more n _ _ _ _ (omega arith) c

-- where a group was given, fewer are left
pub fewer : (left next : List Group) (g : Group) → left ≡ g ∷ next → length next < length left
fewer left next g e = omega (arith, ap length e)

-- ---- the list of groups

pub adds : (kind : Kind) (ds : List (ℕ × Described)) (l : List Field) (gs : List Group) → add_fields kind ds l gs ≡ l ++ add_fields kind ds [] gs
unfolding add_fields
adds kind ds l [] = sym (append-nil l)
adds kind ds l (g ∷ gs) =
    adds kind ds (l ++ group_fields kind ds g) gs
    ∙ append_assoc l (group_fields kind ds g) (add_fields kind ds [] gs)
    ∙ ap (λ (m : List Field). l ++ m) (sym (adds kind ds (group_fields kind ds g) gs))

pub adds_first : (kind : Kind) (ds : List (ℕ × Described)) (g : Group) (gs : List Group)
    → add_fields kind ds [] (g ∷ gs) ≡ group_fields kind ds g ++ add_fields kind ds [] gs
unfolding add_fields
adds_first kind ds g gs = adds kind ds (group_fields kind ds g) gs

adds_none : (kind : Kind) (ds : List (ℕ × Described)) → add_fields kind ds [] [] ≡ []
unfolding add_fields
adds_none kind ds = refl

-- ---- the measures: 2p for the row at p, 2q + 1 for a group whose id's triplet stands at q

pub off : (q t p : ℕ) → (p ≡ q) × (p < 65536) → q + q + 1 ≡ t → p + p < t
off q t p h e = omega arith

-- ---- the invariant: the groups passed made the fields `done`, and those that are left give the others of the row at p

pub record Passed (d s : List ℕ) (p head : ℕ) (left : List Group) (done : List Field) : Type 0 where
  pub head_is : head ≡ get_or d (p + 1) 0
  pub parts : row_list d p ≡ done ++ add_fields (kind_at d p) (described_by d) [] left
  pub fine : Each (Refers (kind_at d p) d s p) left
  pub inside : p ≤ length d

module _ (d s : List ℕ) (p head : ℕ) where
  pub none_passed : head ≡ get_or d (p + 1) 0 → (left : List Group) → left ≡ groups_at d p → RowAt d s p (row_list d p) → Passed d s p head left []
  unfolding row_list groups_at
  none_passed e left u r =
      record {
        head_is = e;
        parts = ap (add_fields (kind_at d p) (described_by d) []) (sym u);
        fine = rw u (each_in (Refers (kind_at d p) d s p) (get_or d p 0 - 3) (drop (p + 3) d) r.groups);
        inside = omega (arith, r.head);
      }

  -- at a group
  module _ (g : Group) (left : List Group) (done : List Field) (w : Passed d s p head (g ∷ left) done) where
    pub refers : Refers (kind_of head) d s (length d) g
    refers =
        let r = w.fine.0 in
        rw w.head_is (record { to = r.to; known = r.known; back = omega (arith, r.back, w.inside); id_fits = r.id_fits; makes = r.makes })

    pub down : (t : ℕ) → p + p ≡ t → get_or s g.ref 0 + get_or s g.ref 0 + 1 < t
    down t e = omega (arith, w.fine.0.back)

    -- the fields of the groups behind it
    abbrev pub rest : List Field
    rest = add_fields (kind_at d p) (described_by d) [] left

    pub split : row_list d p ≡ done ++ group_list d (kind_of head) g ++ rest
    unfolding group_list
    split =
        rw w.head_is
        (w.parts
        ∙ ap (λ (l : List Field). done ++ l) (adds_first (kind_at d p) (described_by d) g left)
        ∙ sym (append_assoc done (group_list d (kind_at d p) g) rest))

    pub one_passed : Passed d s p head left (done ++ group_list d (kind_of head) g)
    one_passed = record { head_is = w.head_is; parts = split; fine = w.fine.1; inside = w.inside }

  -- behind the last
  pub all_passed : (done : List Field) → Passed d s p head [] done → row_list d p ≡ done
  all_passed done w = w.parts ∙ ap (λ (l : List Field). done ++ l) (adds_none (kind_at d p) (described_by d)) ∙ append-nil done

-- ---- and those fields are written

pub record Going (d s : List ℕ) (p at head : ℕ) (plan₀ plan : List ℕ) (a : ℕ) (left : List Group) : Type 0 where
  pub done : List Field
  pub passed : Passed d s p head left done
  pub written : plan ≡ sets plan₀ at (map entry_of done)
  pub place : a ≡ at + length done
  pub same_length : length plan ≡ length plan₀

module _ (d s : List ℕ) (p at head : ℕ) (plan₀ : List ℕ) where
  pub start : head ≡ get_or d (p + 1) 0 → (left : List Group) → left ≡ groups_at d p → RowAt d s p (row_list d p) → Going d s p at head plan₀ plan₀ at left
  start e left u r = record { done = []; passed = none_passed d s p head e left u r; written = refl; place = omega arith; same_length = refl }

  module _ (plan : List ℕ) (a : ℕ) where
    pub going_at : {left next : List Group} → left ≡ next → Going d s p at head plan₀ plan a left → Going d s p at head plan₀ plan a next
    going_at e w = subst (Going d s p at head plan₀ plan a) e w

    -- at a group
    module _ (g : Group) (left : List Group) (w : Going d s p at head plan₀ plan a (g ∷ left)) where
      pub refers_here : Refers (kind_of head) d s (length d) g
      refers_here = refers d s p head g left w.done w.passed

      pub down_here : (t : ℕ) → p + p ≡ t → get_or s g.ref 0 + get_or s g.ref 0 + 1 < t
      down_here = down d s p head g left w.done w.passed

      pub room : at + length (row_list d p) ≤ length plan₀ → a + length (group_list d (kind_of head) g) ≤ length plan
      room k =
          let l : List Field = group_list d (kind_of head) g in
          let r : List Field = rest d s p head g left w.done w.passed in
          let e : length (row_list d p) ≡ length w.done + length l + length r = ap length (split d s p head g left w.done w.passed) ∙ simp length-append in
          omega (arith, w.place, w.same_length)

      pub more : (plan' : List ℕ) (a' : ℕ) → plan' ≡ sets plan a (map entry_of (group_list d (kind_of head) g)) → a' ≡ a + length (group_list d (kind_of head) g)
          → Going d s p at head plan₀ plan' a' left
      more plan' a' u v =
          let m : List Field = group_list d (kind_of head) g in
          let l : List ℕ = map entry_of m in
          let e : length (w.done ++ m) ≡ length w.done + length m = length-append w.done m in
          let q : a ≡ at + length (map entry_of w.done) = w.place ∙ ap (λ (n : ℕ). at + n) (sym (length-map w.done entry_of)) in
          record {
            done = w.done ++ m;
            passed = one_passed d s p head g left w.done w.passed;
            written =
                u
                ∙ ap (λ (m : List ℕ). sets m a l) w.written
                ∙ ap (λ (k : ℕ). sets (sets plan₀ at (map entry_of w.done)) k l) q
                ∙ sets_append plan₀ (map entry_of w.done) l at
                ∙ ap (sets plan₀ at) (sym (map-append entry_of w.done m));
            place = omega (arith, w.place);
            same_length = ap length u ∙ length-sets plan a l ∙ w.same_length;
          }

    -- behind the last
    module _ (w : Going d s p at head plan₀ plan a []) where
      all_done : row_list d p ≡ w.done
      all_done = all_passed d s p head w.done w.passed

      pub finish_place : a ≡ at + length (row_list d p)
      finish_place = w.place ∙ ap (λ (l : List Field). at + length l) (sym all_done)

      pub finish_written : plan ≡ sets plan₀ at (map entry_of (row_list d p))
      finish_written = w.written ∙ ap (λ (l : List Field). sets plan₀ at (map entry_of l)) (sym all_done)
