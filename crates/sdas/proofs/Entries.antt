-- What is kept of an SDA: its plan entry, and its size.
-- Assumes nothing.
use mathlib.Core.Path.{◌≡◌, refl, sym, ap, ◌∙◌}
use Prim.Native.Nat.{ℕ, zero, suc, ◌+◌, ◌*◌, ◌≤◌, ◌<◌}
use native.Mathlib.Omega.{arith}
use native.Mathlib.Nat.{mul-one, zero-mul, mul-le-mul_right}
use mathlib.Core.Bool.{Bool, true, false, not, ◌&&◌}
use mathlib.Core.List.{List, [], ◌∷◌}
use mathlib.Core.Option.{Option, none, some}
use lib.Dec.{eqb}
use lib.ListN.{length, get_or, set, drop}
use lib.Seq.{get_or-take, get_or-drop}
use borrow.Author.Tests.{ltb-true, eqb-false}
use mir.Syntax.{w16}
use mir.Val.{Fits}
use Rattle.fdoca.specs.Basics.{elem, product}
use Rattle.fdoca.specs.FieldType.{FieldType, type_of, rule_of}
use Rattle.fdoca.specs.Triplet.{id_of, code_of, parameters_of, mode_of, bias_of, size_in, extents_of}
use Rattle.fdoca.specs.Check.{good_length_sda, good_type, good_sda}
use Rattle.fdoca.proofs.Tests.{and_left, and_right}
use Rattle.fdoca.specs.Unfolding.{field_of}
use Rattle.fdoca.proofs.Fields.{GoodField, mode_known, bias_known, good_sda_lem}
use Rattle.field_types.specs.Layouts.{number_of}
use Rattle.field_types.specs.Rows.{rule_for}
use Rattle.field_types.specs.declared.Shape.{Shape}
use Rattle.field_types.specs.Parameters.{size_number, shape_of}
use Rattle.fields.specs.Plan.{entry_of, Proper}
use Rattle.fields.specs.Parts.{entry_by}
use Rattle.fields.proofs.Parts.{Bounded, bounded, entry_made, made_proper}
use Rattle.plans.specs.Tied.{lower_of}
use Rattle.sdas.specs.Judged.{extent_or_1}
use Rattle.sdas.specs.Kept.{EntryOf, PutSDA}
use Rattle.fdoca.proofs.TripletBytes.{big_at}
use Rattle.sdas.proofs.Sda.{FourLengths, none_left, one_left, two_left, three_left, four_lengths, extents_next, extents_end, left_out, no_zero, parameters_length}

-- the parts of a good SDA
module _ (t : List ℕ) (h : good_sda t ≡ true) where
  pub good_positive : 0 < product (extents_of t)
  good_positive =
      let q : not (elem 0 (extents_of t)) ≡ true = and_right (not (eqb (id_of t) 0) && good_type (type_of (code_of t)) (parameters_of t)) (not (elem 0 (extents_of t))) h in
      ltb-true 0 (product (extents_of t)) (sym (no_zero (extents_of t)) ∙ q)

  both : (not (eqb (id_of t) 0) && good_type (type_of (code_of t)) (parameters_of t)) ≡ true
  both = and_left (not (eqb (id_of t) 0) && good_type (type_of (code_of t)) (parameters_of t)) (not (elem 0 (extents_of t))) h

  pub good_id : id_of t ≡ 0 → ⊥
  good_id e = go (eqb (id_of t) 0) refl (and_left (not (eqb (id_of t) 0)) (good_type (type_of (code_of t)) (parameters_of t)) both)
    where
      go : (b : Bool) → eqb (id_of t) 0 ≡ b → not b ≡ true → ⊥
      go true f q = let z : ◌≡◌ {A = ℕ} 0 1 = cc in omega arith
      go false f q = eqb-false (id_of t) 0 f e

  pub good_type_lem : (T : FieldType) × (type_of (code_of t) ≡ some T)
  good_type_lem = go (type_of (code_of t)) refl (and_right (not (eqb (id_of t) 0)) (good_type (type_of (code_of t)) (parameters_of t)) both)
    where
      go : (o : Option FieldType) → type_of (code_of t) ≡ o → good_type o (parameters_of t) ≡ true → (T : FieldType) × (type_of (code_of t) ≡ some T)
      go none e q = absurd (let z : ◌≡◌ {A = ℕ} 0 1 = cc in let w : ⊥ = omega arith in w)
      go (some T) e q = (T, e)

-- the product of the lower extents
module _ (t : List ℕ) (h : good_length_sda t ≡ true) where
  pub lower_some : (n : ℕ) → (length t ≡ 12 → ⊥) → n ≡ extent_or_1 t 14 * extent_or_1 t 16 → n ≡ lower_of (extents_of t)
  lower_some n k e = go (four_lengths t h)
    where
      go : FourLengths (length t) → n ≡ lower_of (extents_of t)
      go (none_left f) = absurd (k f)
      go (one_left f) = e ∙ rw (extents_next t 12 (omega arith), extents_end t 14 (omega arith), left_out t 14 (omega arith), left_out t 16 (omega arith))
      go (two_left f) =
          e ∙ rw (extents_next t 12 (omega arith), extents_next t 14 (omega arith), extents_end t 16 (omega arith), left_out t 16 (omega arith))
      go (three_left f) =
          e ∙ rw (extents_next t 12 (omega arith), extents_next t 14 (omega arith), extents_next t 16 (omega arith), extents_end t 18 (omega arith), mul-one)

lower_most : (xs : List ℕ) → 0 < product xs → lower_of xs ≤ product xs
lower_most [] h = omega arith
lower_most (zero ∷ xs) h = absurd (let z : zero * product xs ≡ 0 = zero-mul (product xs) in let w : ⊥ = omega arith in w)
lower_most (suc x ∷ xs) h =
    let m : 1 * product xs ≤ suc x * product xs = mul-le-mul_right (product xs) (omega arith) in
    omega arith

-- the lower product of at most 4,096 items fits
module _ (t : List ℕ) (count lower : ℕ) (g : good_sda t ≡ true) (e : count ≡ product (extents_of t)) (small : count ≤ 4096)
    (l : lower ≡ lower_of (extents_of t)) where
  least : lower ≤ 4096
  least = omega (arith, lower_most (extents_of t) (good_positive t g))

  pub lower_fits : Fits w16 lower
  lower_fits = let h : lower ≤ 4096 = least in record { fits = omega arith }

-- the mode of a good SDA is its byte 9, and its bias indicator the byte 7; both are 0 or 1
module _ (t : List ℕ) (long : 12 ≤ length t) (good : good_sda t ≡ true) where
  parameter : (i : ℕ) → i < 8 → get_or (parameters_of t) i 0 ≡ get_or t (4 + i) 0
  parameter i h = get_or-take 8 (drop 4 t) i 0 h ∙ get_or-drop 4 t i 0

  field_good : (T : FieldType) → type_of (code_of t) ≡ some T → GoodField (field_of T t)
  field_good T q = good_sda_lem t T q good

  mode_read : mode_of (parameters_of t) ≡ get_or t 9 0
  mode_read = parameter 5 (omega arith)

  mode_small : get_or t 9 0 ≤ 1
  mode_small = let (T, q) = good_type_lem t good in rw mode_read at (mode_known (field_good T q))

  two_read : bias_of (parameters_of t) ≡ get_or t 6 0 * 256 + get_or t 7 0
  two_read =
      big_at (parameters_of t) 2 (omega (arith, parameters_length t long)) ∙ rw (parameter 2 (omega arith), parameter 3 (omega arith))

  bias_read : (bias_of (parameters_of t) ≡ get_or t 7 0) × (get_or t 7 0 ≤ 1)
  bias_read =
      let (T, q) = good_type_lem t good in
      let h : bias_of (parameters_of t) ≤ 1 = bias_known (field_good T q) in
      (omega (arith, two_read), omega (arith, two_read))

  pub own_small : (m b c i : ℕ) → m ≡ get_or t 9 0 → b ≡ get_or t 7 0 → c < 256 → i < 256 → i + 256 * (c + 256 * (m + 128 * b)) < 16777216
  own_small m b c i em eb cf ifs = omega (arith, mode_small, bias_read.1)

-- the size of a good SDA, by its shape
module _ (t : List ℕ) (x : Shape) (good : good_sda t ≡ true) (ex : x ≡ shape_of (code_of t) (parameters_of t)) where
  size_bounded : (T : FieldType) → type_of (code_of t) ≡ some T → Bounded (rule_of T).sizes (field_of T t).size
  size_bounded T q = bounded T (field_of T t).size (good_sda_lem t T q good).allowed

  shape_size : (T : FieldType) → type_of (code_of t) ≡ some T → x.size ≡ size_number (field_of T t).size
  unfolding shape_of rule_for
  shape_size T q = ap (λ y. y.size) ex ∙ ap (λ o. size_number (size_in (rule_for o) (parameters_of t))) q

  pub size_below : x.size < 65536
  size_below = let (T, q) = good_type_lem t good in rw (shape_size T q) (size_bounded T q).number_small

  -- the plan's entry, from its parts
  pub entry_way : (m b c i layout r : ℕ) → 12 ≤ length t → m ≡ get_or t 9 0 → b ≡ get_or t 7 0 → c ≡ get_or t 3 0 → c < 256 → i ≡ get_or t 2 0 → i < 256
      → layout ≡ number_of x.layout → r ≡ entry_by (i + 256 * (c + 256 * (m + 128 * b))) layout x.size → EntryOf t r
  unfolding shape_of
  entry_way m b c i layout r long em eb ec cf ei ifs el er = record { same = λ T q. same T q; proper = λ T q z. fits T q z }
    where
      mode : m ≡ mode_of (parameters_of t)
      mode = em ∙ sym (mode_read t long good)

      bias : b ≡ bias_of (parameters_of t)
      bias = eb ∙ sym (bias_read t long good).0

      same : (T : FieldType) → type_of (code_of t) ≡ some T → r ≡ entry_of (field_of T t)
      same T q =
          er ∙ entry_made (field_of T t) (i + 256 * (c + 256 * (m + 128 * b))) layout x.size q (size_bounded T q).in_two
          (rw (← mode, ← bias, ← ec, ← ei)) (el ∙ ap (λ y. number_of y.layout) ex) (shape_size T q)

      fits : (T : FieldType) → type_of (code_of t) ≡ some T → (id_of t ≡ 0 → ⊥) → Proper (field_of T t)
      fits T q h =
          let g = field_good t long good T q in
          made_proper (field_of T t) (omega arith) (omega (arith, h)) (omega arith) (omega (arith, mode_known g)) (omega (arith, bias_known g)) g.allowed

pub put_way : (t s z e s' z' e' : List ℕ) (p count lower entry : ℕ) → get_or t 2 0 < 256 → lower ≡ lower_of (extents_of t) → count ≡ product (extents_of t)
    → EntryOf t entry → s' ≡ set s (get_or t 2 0) p → z' ≡ set z (get_or t 2 0) (count + 65536 * lower) → e' ≡ set e (get_or t 2 0) entry
    → PutSDA t p s z e s' z' e'
put_way t s z e s' z' e' p count lower entry l el ec x es ez ee =
    record { entry = entry; is_entry = x; id_fits = l; positions = es; sizes = rw (← el, ← ec) ez; entries = ee }
