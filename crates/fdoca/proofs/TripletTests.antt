-- The check's tests of a single triplet tell whether document 01's rows 5 and 6 hold of it.
-- Assumes nothing.
use mathlib.Core.Path.{◌≡◌, refl, sym, ap, ◌∙◌}
use mathlib.Core.Logic.{◌≢◌, ◌⊎◌, inl, inr}
use Prim.Native.Nat.{ℕ, zero, suc, ◌+◌, ◌-◌, ◌*◌, ◌/◌, ◌%◌, ◌≤◌}
use native.Mathlib.Omega.{arith}
use mathlib.Core.Bool.{Bool, true, false, not, ◌&&◌, true≢false}
use mathlib.Core.List.{List, [], ◌∷◌}
use mathlib.Core.Option.{Option, none, some}
use lib.Dec.{leb, eqb}
use lib.ListN.{length}
use borrow.Author.Tests.{leb-true, leb-false, eqb-true, eqb-false, le-leb, eq-eqb, not-true, not-false}
use Rattle.fdoca.specs.Basics.{elem}
use Rattle.fdoca.specs.FieldType.{FieldType, type_of, rule_of}
use Rattle.fdoca.specs.Triplet.{id_of, code_of, parameters_of, extents_of, subset_of, version_of}
use Rattle.fdoca.specs.Check.{good_type, good_length_sda, good_sda, good_length_row, good_length_isd, good_isd}
use Rattle.fdoca.specs.Reasons.{OneOf, here, there, length_byte, byte_of, NotTorn, sda_byte, rlo_byte, gda_byte, isd_byte, cpt_byte, Is, HasGroups, Describes, extent, GoodParameters, Form, sda, of_groups, isd, BadLength, BadParameter, own_id_0, parameters, extent_0, reserved, isd_id, subset, version}
use Rattle.fdoca.proofs.Tests.{and_left, and_right}
use Rattle.fdoca.proofs.TripletBytes.{bytes_of, length_bytes, byte_bytes, byte_parameters, bias_bytes, mode_bytes, extents_from, extents_end, subset_bytes, version_bytes, version_left_off}
use Rattle.fdoca.proofs.TypeRows.{elem_in, elem_out, good_parts, parts_good, rule_holds, table_holds, type_of_code}

-- A test tells whether P holds.
pub record Tells (b : Bool) (P : Type 0) : Type 0 where
  pub yes : b ≡ true → P
  pub no : b ≡ false → P → ⊥

pub clash : {d : List ℕ} {a b j : ℕ} → Is d a j → Is d b j → a ≢ b → ⊥
clash x y n = n (sym x.type ∙ y.type)

pub row_clash : {d : List ℕ} {c j : ℕ} → HasGroups d j → Is d c j → c ≢ rlo_byte → c ≢ gda_byte → ⊥
row_clash (inl k) i a b = clash i k a
row_clash (inr k) i a b = clash i k b

-- what describes is an SDA, an RLO or a GDA
pub no_describer : {d : List ℕ} {c id j : ℕ} → Is d c j → c ≢ sda_byte → c ≢ rlo_byte → c ≢ gda_byte → Describes d id j → ⊥
no_describer {d} {c} {id} {j} i a b e x = go x.kind
  where
    go : Is d sda_byte j ⊎ HasGroups d j → ⊥
    go (inl k) = clash i k a
    go (inr k) = row_clash k i b e

-- the four forms of an SDA's extents
pub data Extents (d : List ℕ) (j : ℕ) : List ℕ → Type 0 where
  none_there : length_byte d j ≡ 12 → Extents d j []
  one_there : length_byte d j ≡ 14 → Extents d j (extent d j 0 ∷ [])
  two_there : length_byte d j ≡ 16 → Extents d j (extent d j 0 ∷ extent d j 1 ∷ [])
  three_there : length_byte d j ≡ 18 → Extents d j (extent d j 0 ∷ extent d j 1 ∷ extent d j 2 ∷ [])

module _ {d : List ℕ} {j : ℕ} where
  pub zero_extent : {xs : List ℕ} → Extents d j xs → OneOf 0 xs → (k : ℕ) × (14 + 2 * k ≤ length_byte d j) × (extent d j k ≡ 0)
  zero_extent (one_there e) (here h) = (0, omega arith, sym h)
  zero_extent (none_there _) x5 = elim x5 [ ]
  zero_extent (one_there e) (there x8) = elim x8 [ ]
  zero_extent (two_there e) (there (there x13)) = elim x13 [ ]
  zero_extent (three_there e) (there (there (there x18))) = elim x18 [ ]
  zero_extent (two_there e) (here h) = (0, omega arith, sym h)
  zero_extent (two_there e) (there (here h)) = (1, omega arith, sym h)
  zero_extent (three_there e) (here h) = (0, omega arith, sym h)
  zero_extent (three_there e) (there (here h)) = (1, omega arith, sym h)
  zero_extent (three_there e) (there (there (here h))) = (2, omega arith, sym h)

  pub has_extent : {xs : List ℕ} → Extents d j xs → (k : ℕ) → 14 + 2 * k ≤ length_byte d j → OneOf (extent d j k) xs
  has_extent (none_there e) k h = absurd (let z : ⊥ = omega arith in z)
  has_extent (one_there e) zero h = here refl
  has_extent (one_there e) (suc k) h = absurd (let z : ⊥ = omega arith in z)
  has_extent (two_there e) zero h = here refl
  has_extent (two_there e) (suc zero) h = there (here refl)
  has_extent (two_there e) (suc (suc k)) h = absurd (let z : ⊥ = omega arith in z)
  has_extent (three_there e) zero h = here refl
  has_extent (three_there e) (suc zero) h = there (here refl)
  has_extent (three_there e) (suc (suc zero)) h = there (there (here refl))
  has_extent (three_there e) (suc (suc (suc k))) h = absurd (let z : ⊥ = omega arith in z)

-- the forms of LENGTH, by construct
no_groups : {c : ℕ} {A : Type 0} → OneOf c (rlo_byte ∷ gda_byte ∷ cpt_byte ∷ []) → c ≢ rlo_byte → c ≢ gda_byte → c ≢ cpt_byte → A
no_groups (here e) a b h = absurd (a e)
no_groups (there (here e)) a b h = absurd (b e)
no_groups (there (there (here e))) a b h = absurd (h e)
no_groups {c = c} {A = A} (there (there (there x15))) a b h = elim x15 [ ]

sda_form : {c n : ℕ} → Form c n → c ≡ sda_byte → OneOf n (12 ∷ 14 ∷ 16 ∷ 18 ∷ [])
sda_form (sda o) e = o
sda_form (of_groups k o) e = no_groups o (omega arith) (omega arith) (omega arith)
sda_form (isd o) e = absurd (let z : ⊥ = omega arith in z)

isd_form : {c n : ℕ} → Form c n → c ≡ isd_byte → OneOf n (5 ∷ 6 ∷ [])
isd_form (sda o) e = absurd (let z : ⊥ = omega arith in z)
isd_form (of_groups k o) e = no_groups o (omega arith) (omega arith) (omega arith)
isd_form (isd o) e = o

row_form_of : {c n : ℕ} → Form c n → OneOf c (rlo_byte ∷ gda_byte ∷ cpt_byte ∷ []) → (k : ℕ) × (n ≡ 6 + 3 * k)
row_form_of (sda o) r = no_groups r (omega arith) (omega arith) (omega arith)
row_form_of (of_groups k o) r = (k, refl)
row_form_of (isd o) r = no_groups r (omega arith) (omega arith) (omega arith)

row_has_form : {c n : ℕ} → OneOf c (rlo_byte ∷ gda_byte ∷ cpt_byte ∷ []) → (k : ℕ) × (n ≡ 6 + 3 * k) → Form c n
row_has_form o k = rw k.1 (of_groups k.0 o)

module _ (d : List ℕ) (j : ℕ) (w : NotTorn d j) where
  pub extents_are : OneOf (length_byte d j) (12 ∷ 14 ∷ 16 ∷ 18 ∷ []) → Extents d j (extents_of (bytes_of d j))
  extents_are (here e) = rw (extents_end d j w 0 e) (none_there e)
  extents_are (there (here e)) = rw (extents_from d j w 0 (omega arith), extents_end d j w 1 e) (one_there e)
  extents_are (there (there (here e))) =
      rw (extents_from d j w 0 (omega arith), extents_from d j w 1 (omega arith), extents_end d j w 2 e) (two_there e)
  extents_are (there (there (there (here e)))) =
      rw (extents_from d j w 0 (omega arith), extents_from d j w 1 (omega arith), extents_from d j w 2 (omega arith), extents_end d j w 3 e) (three_there e)
  extents_are (there (there (there (there x16)))) = elim x16 [ ]

  -- LENGTH by a list of forms
  length_forms : (ns : List ℕ) → (OneOf (length_byte d j) ns → Form (byte_of d j 1) (length_byte d j)) → (Form (byte_of d j 1) (length_byte d j) → OneOf (length_byte d j) ns)
      → Tells (not (elem (length (bytes_of d j)) ns)) (BadLength d j)
  length_forms ns f g =
      rw (length_bytes d j w)
      (record {
        yes = λ h. record { no_form = λ x. elem_out (length_byte d j) ns (not-true _ h) (g x) };
        no = λ h b. b.no_form (f (elem_in (length_byte d j) ns (not-false _ h)));
      })

  module _ (is : Is d sda_byte j) where
    pub sda_length : Tells (not (good_length_sda (bytes_of d j))) (BadLength d j)
    sda_length = length_forms (12 ∷ 14 ∷ 16 ∷ 18 ∷ []) (λ o. rw is.type (sda o)) (λ f. sda_form f is.type)

    pub sda_forms : not (good_length_sda (bytes_of d j)) ≡ false → OneOf (length_byte d j) (12 ∷ 14 ∷ 16 ∷ 18 ∷ [])
    sda_forms h = elem_in (length_byte d j) (12 ∷ 14 ∷ 16 ∷ 18 ∷ []) (rw (length_bytes d j w) at (not-false (good_length_sda (bytes_of d j)) h))

    module _ (forms : OneOf (length_byte d j) (12 ∷ 14 ∷ 16 ∷ 18 ∷ [])) where
      pub sda_long : 12 ≤ length_byte d j
      sda_long = go forms
        where
          go : OneOf (length_byte d j) (12 ∷ 14 ∷ 16 ∷ 18 ∷ []) → 12 ≤ length_byte d j
          go (here e) = omega arith
          go (there (here e)) = omega arith
          go (there (there (here e))) = omega arith
          go (there (there (there (here e)))) = omega arith
          go (there (there (there (there x16)))) = elim x16 [ ]

      id_is : id_of (bytes_of d j) ≡ byte_of d j 2
      id_is = byte_bytes d j w 2 (omega (arith, sda_long))

      code_is : code_of (bytes_of d j) ≡ byte_of d j 3
      code_is = byte_bytes d j w 3 (omega (arith, sda_long))

      type_good : good_type (type_of (code_of (bytes_of d j))) (parameters_of (bytes_of d j)) ≡ true → GoodParameters d j
      type_good = go (type_of (code_of (bytes_of d j))) refl
        where
          go : (o : Option FieldType) → type_of (code_of (bytes_of d j)) ≡ o → good_type o (parameters_of (bytes_of d j)) ≡ true → GoodParameters d j
          go none e h = absurd (true≢false (sym h))
          go (some T) e h =
              let g = good_parts (rule_of T) (parameters_of (bytes_of d j)) h in
              record {
                zeros = (sym (byte_parameters d j w sda_long 0 (omega arith)) ∙ g.zeros.0, sym (byte_parameters d j w sda_long 1 (omega arith)) ∙ g.zeros.1, sym (byte_parameters d j w sda_long 4 (omega arith)) ∙ g.zeros.2);
                hold =
                    rw (← bias_bytes d j w sda_long, ← mode_bytes d j w sda_long, ← byte_parameters d j w sda_long 6 (omega arith), ← byte_parameters d j w sda_long 7 (omega arith))
                    (rule_holds (byte_of d j 3) _ _ _ _ T (ap type_of (sym code_is) ∙ e) g.bias g.mode g.size_allowed_lem);
              }

      good_type_lem : GoodParameters d j → good_type (type_of (code_of (bytes_of d j))) (parameters_of (bytes_of d j)) ≡ true
      good_type_lem g =
          let b = table_holds g.hold in
          rw (code_is, type_of_code b.typed)
          (parts_good (rule_of b.type) (parameters_of (bytes_of d j)) (record {
            zeros = (byte_parameters d j w sda_long 0 (omega arith) ∙ g.zeros.0, byte_parameters d j w sda_long 1 (omega arith) ∙ g.zeros.1, byte_parameters d j w sda_long 4 (omega arith) ∙ g.zeros.2);
            bias = rw (bias_bytes d j w sda_long) b.bias_is;
            mode = rw (mode_bytes d j w sda_long) b.mode_is;
            size_allowed_lem = rw (byte_parameters d j w sda_long 6 (omega arith), byte_parameters d j w sda_long 7 (omega arith)) b.size_is;
          }))

      sda_bad : (a g x : Bool) → eqb (id_of (bytes_of d j)) 0 ≡ a → good_type (type_of (code_of (bytes_of d j))) (parameters_of (bytes_of d j)) ≡ g
          → elem 0 (extents_of (bytes_of d j)) ≡ x → not (not a && g && not x) ≡ true → BadParameter d j
      sda_bad true g x ea eg ex h = own_id_0 (record { kind = inl is; named = sym id_is ∙ eqb-true _ 0 ea })
      sda_bad false false x ea eg ex h = parameters is (λ k. true≢false (sym (good_type_lem k) ∙ eg))
      sda_bad false true true ea eg ex h = let z = zero_extent (extents_are forms) (elem_in 0 (extents_of (bytes_of d j)) ex) in extent_0 z.0 is z.1 z.2
      sda_bad false true false ea eg ex h = absurd (true≢false (sym h))

      sda_good : (a g x : Bool) → eqb (id_of (bytes_of d j)) 0 ≡ a → good_type (type_of (code_of (bytes_of d j))) (parameters_of (bytes_of d j)) ≡ g
          → elem 0 (extents_of (bytes_of d j)) ≡ x → not (not a && g && not x) ≡ false → BadParameter d j → ⊥
      sda_good true g x ea eg ex h b = true≢false h
      sda_good false false x ea eg ex h b = true≢false h
      sda_good false true true ea eg ex h b = true≢false h
      sda_good false true false ea eg ex h (own_id_0 k) = eqb-false _ 0 ea (id_is ∙ k.named)
      sda_good false true false ea eg ex h (parameters i k) = k (type_good eg)
      sda_good false true false ea eg ex h (extent_0 k i l e) = elem_out 0 (extents_of (bytes_of d j)) ex (rw e at (has_extent (extents_are forms) k l))
      sda_good false true false ea eg ex h (reserved i k) = clash is i (omega arith)
      sda_good false true false ea eg ex h (isd_id i k) = clash is i (omega arith)
      sda_good false true false ea eg ex h (subset i k) = clash is i (omega arith)
      sda_good false true false ea eg ex h (version i k l) = clash is i (omega arith)

      pub sda_parameters : Tells (not (good_sda (bytes_of d j))) (BadParameter d j)
      sda_parameters = record { yes = sda_bad _ _ _ refl refl refl; no = sda_good _ _ _ refl refl refl }

  -- LENGTH of an RLO, a GDA or a CPT is 3 plus a positive multiple of 3
  by_three : (n : ℕ) → (leb 6 n && eqb (n % 3) 0) ≡ true → (k : ℕ) × (n ≡ 6 + 3 * k)
  by_three n h =
      let a : 6 ≤ n = leb-true 6 n (and_left (leb 6 n) (eqb (n % 3) 0) h) in
      let b : n % 3 ≡ 0 = eqb-true (n % 3) 0 (and_right (leb 6 n) (eqb (n % 3) 0) h) in
      (n / 3 - 2, omega arith)

  by_three_back : (n k : ℕ) → n ≡ 6 + 3 * k → (leb 6 n && eqb (n % 3) 0) ≡ true
  by_three_back n k e =
      let b : n % 3 ≡ 0 = omega arith in
      rw (le-leb 6 n (omega arith), eq-eqb (n % 3) 0 b)

  pub row_form : not (good_length_row (bytes_of d j)) ≡ false → (k : ℕ) × (length_byte d j ≡ 6 + 3 * k)
  row_form h = by_three (length_byte d j) (rw (length_bytes d j w) at (not-false (good_length_row (bytes_of d j)) h))

  row_no_form : not (good_length_row (bytes_of d j)) ≡ true → (k : ℕ) → length_byte d j ≢ 6 + 3 * k
  row_no_form h k e = true≢false (sym (by_three_back (length_byte d j) k e) ∙ rw (length_bytes d j w) at (not-true (good_length_row (bytes_of d j)) h))

  pub row_length : OneOf (byte_of d j 1) (rlo_byte ∷ gda_byte ∷ cpt_byte ∷ []) → Tells (not (good_length_row (bytes_of d j))) (BadLength d j)
  row_length o = record { yes = λ h. record { no_form = λ f. (let k = row_form_of f o in row_no_form h k.0 k.1) }; no = λ h b. b.no_form (row_has_form o (row_form h)) }

  module _ (is : HasGroups d j) where
    pub row_parameters : 6 ≤ length_byte d j → Tells (eqb (id_of (bytes_of d j)) 0) (BadParameter d j)
    row_parameters l =
        rw (byte_bytes d j w 2 (omega arith))
        (record { yes = λ h. own_id_0 (record { kind = inr is; named = eqb-true (byte_of d j 2) 0 h }); no = λ h. good (eqb-false (byte_of d j 2) 0 h) })
      where
        good : (byte_of d j 2 ≢ 0) → BadParameter d j → ⊥
        good h (own_id_0 k) = h k.named
        good h (parameters i k) = row_clash is i (omega arith) (omega arith)
        good h (extent_0 k i l e) = row_clash is i (omega arith) (omega arith)
        good h (reserved i k) = row_clash is i (omega arith) (omega arith)
        good h (isd_id i k) = row_clash is i (omega arith) (omega arith)
        good h (subset i k) = row_clash is i (omega arith) (omega arith)
        good h (version i k l) = row_clash is i (omega arith) (omega arith)

  module _ (is : Is d cpt_byte j) where
    pub cpt_parameters : 6 ≤ length_byte d j → Tells (not (eqb (id_of (bytes_of d j)) 0)) (BadParameter d j)
    cpt_parameters l =
        rw (byte_bytes d j w 2 (omega arith))
        (record { yes = λ h. reserved is (eqb-false (byte_of d j 2) 0 (not-true (eqb (byte_of d j 2) 0) h)); no = λ h. good (eqb-true (byte_of d j 2) 0 (not-false (eqb (byte_of d j 2) 0) h)) })
      where
        good : (byte_of d j 2 ≡ 0) → BadParameter d j → ⊥
        good h (own_id_0 k) = no_describer is (omega arith) (omega arith) (omega arith) k
        good h (parameters i k) = clash is i (omega arith)
        good h (extent_0 k i l e) = clash is i (omega arith)
        good h (reserved i k) = k h
        good h (isd_id i k) = clash is i (omega arith)
        good h (subset i k) = clash is i (omega arith)
        good h (version i k l) = clash is i (omega arith)

  module _ (is : Is d isd_byte j) where
    pub isd_length : Tells (not (good_length_isd (bytes_of d j))) (BadLength d j)
    isd_length = length_forms (5 ∷ 6 ∷ []) (λ o. rw is.type (isd o)) (λ f. isd_form f is.type)

    pub isd_forms : not (good_length_isd (bytes_of d j)) ≡ false → 5 ≤ length_byte d j
    isd_forms h = go (elem_in (length_byte d j) (5 ∷ 6 ∷ []) (rw (length_bytes d j w) at (not-false (good_length_isd (bytes_of d j)) h)))
      where
        go : OneOf (length_byte d j) (5 ∷ 6 ∷ []) → 5 ≤ length_byte d j
        go (here e) = omega arith
        go (there (here e)) = omega arith
        go (there (there x8)) = elim x8 [ ]

    module _ (long : 5 ≤ length_byte d j) where
      -- the version is 1, or is left off
      version_1 : eqb (version_of (bytes_of d j)) 1 ≡ true → 6 ≤ length_byte d j → byte_of d j 5 ≢ 1 → ⊥
      version_1 h l n = n (sym (version_bytes d j w l) ∙ eqb-true _ 1 h)

      version_other : eqb (version_of (bytes_of d j)) 1 ≡ false → (6 ≤ length_byte d j) × (byte_of d j 5 ≢ 1)
      version_other h = go (leb 6 (length_byte d j)) refl
        where
          go : (b : Bool) → leb 6 (length_byte d j) ≡ b → (6 ≤ length_byte d j) × (byte_of d j 5 ≢ 1)
          go true e = let l = leb-true 6 (length_byte d j) e in (l, λ q. eqb-false _ 1 h (version_bytes d j w l ∙ q))
          go false e = absurd (eqb-false _ 1 h (version_left_off d j w (omega (arith, leb-false 6 (length_byte d j) e))))

      isd_bad : (a b c : Bool) → eqb (id_of (bytes_of d j)) 0 ≡ a → elem (subset_of (bytes_of d j)) (0x0000 ∷ 0x0100 ∷ []) ≡ b → eqb (version_of (bytes_of d j)) 1 ≡ c
          → not (a && b && c) ≡ true → BadParameter d j
      isd_bad false b c ea eb ec h = isd_id is (λ q. eqb-false _ 0 ea (byte_bytes d j w 2 (omega arith) ∙ q))
      isd_bad true false c ea eb ec h = subset is (λ q. elem_out (subset_of (bytes_of d j)) (0x0000 ∷ 0x0100 ∷ []) eb (rw (subset_bytes d j w long) q))
      isd_bad true true false ea eb ec h = let q = version_other ec in version is q.0 q.1
      isd_bad true true true ea eb ec h = absurd (true≢false (sym h))

      isd_good : (a b c : Bool) → eqb (id_of (bytes_of d j)) 0 ≡ a → elem (subset_of (bytes_of d j)) (0x0000 ∷ 0x0100 ∷ []) ≡ b → eqb (version_of (bytes_of d j)) 1 ≡ c
          → not (a && b && c) ≡ false → BadParameter d j → ⊥
      isd_good false b c ea eb ec h x = true≢false h
      isd_good true false c ea eb ec h x = true≢false h
      isd_good true true false ea eb ec h x = true≢false h
      isd_good true true true ea eb ec h (own_id_0 k) = no_describer is (omega arith) (omega arith) (omega arith) k
      isd_good true true true ea eb ec h (parameters i k) = clash is i (omega arith)
      isd_good true true true ea eb ec h (extent_0 k i l e) = clash is i (omega arith)
      isd_good true true true ea eb ec h (reserved i k) = clash is i (omega arith)
      isd_good true true true ea eb ec h (isd_id i k) = k (sym (byte_bytes d j w 2 (omega arith)) ∙ eqb-true _ 0 ea)
      isd_good true true true ea eb ec h (subset i k) = k (rw (subset_bytes d j w long) at (elem_in (subset_of (bytes_of d j)) (0x0000 ∷ 0x0100 ∷ []) eb))
      isd_good true true true ea eb ec h (version i k l) = version_1 ec k l

      pub isd_parameters : Tells (not (good_isd (bytes_of d j))) (BadParameter d j)
      isd_parameters = record { yes = isd_bad _ _ _ refl refl refl; no = isd_good _ _ _ refl refl refl }
