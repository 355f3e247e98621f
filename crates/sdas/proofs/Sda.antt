-- An SDA's bytes: its LENGTH, its extents and their product, and what makes its parameters good.
-- Assumes nothing.
use Rattle.std.specs.Prelude.{if◌then◌else◌}
use mathlib.Core.Path.{◌≡◌, refl, sym, ap, subst, ◌∙◌}
use Prim.Native.Nat.{ℕ, zero, suc, ◌+◌, ◌*◌, ◌≤◌, ◌<◌}
use native.Mathlib.Omega.{arith}
use native.Mathlib.Nat.{zero-mul, mul-zero, mul-one, mul-pos}
use native.Mathlib.Numerals.{add-one}
use mathlib.Core.Bool.{Bool, true, false, not, ◌&&◌, and-true, and-false}
use mathlib.Core.List.{List, [], ◌∷◌}
use lib.Dec.{ltb, eqb}
use lib.ListN.{length, get_or, drop, length-drop, drop_of_length-le}
use lib.Seq.{drop-cons, length-take-le}
use borrow.Author.Tests.{lt-ltb, le-ltb, eq-eqb, ne_eqb, eqb-true}
use Rattle.std.specs.Prelude.{Option, None, Some}
use Rattle.fdoca.specs.declared.Reason.TheVariants.{BadLength, BadParameter, NameTaken, TooManyItems}
use Rattle.fdoca.specs.Basics.{elem, product}
use Rattle.fdoca.specs.Triplet.{pairs, extents_of, id_of, code_of, parameters_of}
use Rattle.fdoca.specs.FieldType.{type_of}
use Rattle.fdoca.specs.Check.{Entry, is_described, good_length_sda, good_type, good_sda, check_sda}
use Rattle.field_types.specs.declared.Shape.{Shape}
use Rattle.field_types.specs.Parameters.{good_eight, shape_if}
use Rattle.field_types.proofs.Allowed.{good_eight_lem, shape_none, shape_some, shape_is}
use Rattle.sdas.specs.Tables.{Agrees}
use Rattle.sdas.specs.Judged.{extent_or_1, RefusedSDA, AcceptedSDA}
use Rattle.sdas.proofs.Described.{below, is_described_lem, not_described}

-- LENGTH is one of four
pub data FourLengths (n : ℕ) : Type 0 where
  none_left : n ≡ 12 → FourLengths n
  one_left : n ≡ 14 → FourLengths n
  two_left : n ≡ 16 → FourLengths n
  three_left : n ≡ 18 → FourLengths n

pub four_lengths : (t : List ℕ) → good_length_sda t ≡ true → FourLengths (length t)
four_lengths t = go (length t) (eqb (length t) 12) (eqb (length t) 14) (eqb (length t) 16) (eqb (length t) 18) refl refl refl refl
  where
    go : (n : ℕ) (a b c d : Bool) → eqb n 12 ≡ a → eqb n 14 ≡ b → eqb n 16 ≡ c → eqb n 18 ≡ d
        → (if a then true else if b then true else if c then true else if d then true else false) ≡ true → FourLengths n
    go n true b c d e₁ e₂ e₃ e₄ h = none_left (eqb-true n 12 e₁)
    go n false true c d e₁ e₂ e₃ e₄ h = one_left (eqb-true n 14 e₂)
    go n false false true d e₁ e₂ e₃ e₄ h = two_left (eqb-true n 16 e₃)
    go n false false false true e₁ e₂ e₃ e₄ h = three_left (eqb-true n 18 e₄)
    go n false false false false e₁ e₂ e₃ e₄ h = absurd (let z : ◌≡◌ {A = ℕ} 0 1 = cc in let w : ⊥ = omega arith in w)

pub at_least_12 : (t : List ℕ) → good_length_sda t ≡ true → 12 ≤ length t
at_least_12 t h = go (four_lengths t h)
  where
    go : FourLengths (length t) → 12 ≤ length t
    go (none_left e) = omega arith
    go (one_left e) = omega arith
    go (two_left e) = omega arith
    go (three_left e) = omega arith

-- the extents from place i on
module _ (t : List ℕ) (i : ℕ) where
  pub extents_end : length t ≤ i → pairs (drop i t) ≡ []
  extents_end h = rw (drop_of_length-le t h)

  pub extents_next : i + 2 ≤ length t → pairs (drop i t) ≡ extent_or_1 t i ∷ pairs (drop (i + 2) t)
  unfolding extent_or_1
  extents_next h =
      let e : i + 2 ≡ suc (suc i) = omega arith in
      rw (drop-cons t i 0 (omega arith), drop-cons t (suc i) 0 (omega arith), e, le-ltb (length t) (suc (suc i)) (omega arith), add-one)

  pub left_out : length t < i + 2 → extent_or_1 t i ≡ 1
  unfolding extent_or_1
  left_out h = rw (lt-ltb (length t) (i + 2) h)

-- The product of the extents, with 1 for those that are left out.
pub extents_product : (t : List ℕ) → good_length_sda t ≡ true → product (extents_of t) ≡ extent_or_1 t 12 * (extent_or_1 t 14 * extent_or_1 t 16)
extents_product t h = go (four_lengths t h)
  where
    go : FourLengths (length t) → product (extents_of t) ≡ extent_or_1 t 12 * (extent_or_1 t 14 * extent_or_1 t 16)
    go (none_left e) =
        rw (extents_end t 12 (omega arith), left_out t 12 (omega arith), left_out t 14 (omega arith), left_out t 16 (omega arith))
    go (one_left e) =
        rw (extents_next t 12 (omega arith), extents_end t 14 (omega arith), left_out t 14 (omega arith), left_out t 16 (omega arith))
    go (two_left e) =
        rw (extents_next t 12 (omega arith), extents_next t 14 (omega arith), extents_end t 16 (omega arith), left_out t 16 (omega arith))
    go (three_left e) =
        rw (extents_next t 12 (omega arith), extents_next t 14 (omega arith), extents_next t 16 (omega arith), extents_end t 18 (omega arith)) (rw mul-one)

-- the product of all extents
module _ (a b : ℕ) where
  pub count_below : a < 65536 → b < 4294967296 → a * b < 281474976710656
  count_below h k = let m : a * b ≤ 65535 * 4294967295 = below a b 65535 4294967295 (omega arith) (omega arith) in omega arith

  pub count_is : (t : List ℕ) → good_length_sda t ≡ true → a ≡ extent_or_1 t 12 → b ≡ extent_or_1 t 14 * extent_or_1 t 16 → a * b ≡ product (extents_of t)
  count_is t g e f = let q : a * b ≡ extent_or_1 t 12 * (extent_or_1 t 14 * extent_or_1 t 16) = cc in q ∙ sym (extents_product t g)

-- no extent is 0 exactly where their product is above 0
positive_mul : (x n : ℕ) → ltb 0 (suc x * n) ≡ ltb 0 n
positive_mul x zero = rw mul-zero
positive_mul x (suc n) = lt-ltb 0 (suc x * suc n) (mul-pos (omega arith) (omega arith)) ∙ sym (lt-ltb 0 (suc n) (omega arith))

pub no_zero : (xs : List ℕ) → not (elem 0 xs) ≡ ltb 0 (product xs)
no_zero [] = refl
no_zero (zero ∷ xs) = rw zero-mul
no_zero (suc x ∷ xs) = let e : eqb 0 (suc x) ≡ false = ne_eqb 0 (suc x) (λ q. omega arith) in rw (e, positive_mul x (product xs)) (no_zero xs)

pub parameters_length : (t : List ℕ) → 12 ≤ length t → length (parameters_of t) ≡ 8
parameters_length t h = length-take-le 8 (drop 4 t) (omega (arith, length-drop 4 t))

-- the ways through `sda_shape`
module _ (t : List ℕ) where
  pub bad_id : get_or t 2 0 ≡ 0 → good_sda t ≡ false
  bad_id e = simp (eq-eqb (get_or t 2 0) 0 e)

  pub bad_extents : (n : ℕ) → n ≡ product (extents_of t) → n ≡ 0 → good_sda t ≡ false
  bad_extents n c z = rw (no_zero (extents_of t), ← c, z) (and-false (not (eqb (id_of t) 0) && good_type (type_of (code_of t)) (parameters_of t)))

  pub good_rest : (n : ℕ) (x : Option Shape) → good_length_sda t ≡ true → (get_or t 2 0 ≡ 0 → ⊥) → n ≡ product (extents_of t) → (n ≡ 0 → ⊥)
      → x ≡ shape_if (good_eight (get_or t 3 0) (parameters_of t)) (get_or t 3 0) (parameters_of t) → x ≡ shape_if (good_sda t) (code_of t) (parameters_of t)
  good_rest n x l i c z e =
      let g : good_eight (get_or t 3 0) (parameters_of t) ≡ good_type (type_of (code_of t)) (parameters_of t) = good_eight_lem (get_or t 3 0) (parameters_of t) (parameters_length t (at_least_12 t l)) in
      let p : not (elem 0 (extents_of t)) ≡ true = no_zero (extents_of t) ∙ rw (← c) (lt-ltb 0 n (omega (arith, z))) in
      e ∙ ap (λ b. shape_if b (code_of t) (parameters_of t)) (simp (ne_eqb (get_or t 2 0) 0 i, p, g, and-true))

-- the ways through judging an SDA, b being the bytes that are kept of t
pub sda_bad_length : (t s : List ℕ) → good_length_sda t ≡ false → RefusedSDA t s BadLength
unfolding check_sda
sda_bad_length t s h = record { refuses = λ p z y es k. rw h }

module _ (t s b : List ℕ) (e : b ≡ t) (h : good_length_sda b ≡ true) where
  pub sda_bad : None ≡ shape_if (good_sda b) (code_of b) (parameters_of b) → RefusedSDA t s BadParameter
  unfolding check_sda
  sda_bad g = subst (λ t. RefusedSDA t s BadParameter) e (record { refuses = λ p z y es k. rw (h, shape_none (code_of b) (parameters_of b) (good_sda b) g) })

  module _ (x : Shape) (g : Some x ≡ shape_if (good_sda b) (code_of b) (parameters_of b)) (i : ℕ) (ei : i ≡ id_of b) (l : i < 256) where
    good : good_sda b ≡ true
    good = shape_some (code_of b) (parameters_of b) (good_sda b) x g

    pub sda_taken : (get_or s i 0 ≡ 65535 → ⊥) → RefusedSDA t s NameTaken
    unfolding check_sda
    sda_taken u =
        subst (λ t. RefusedSDA t s NameTaken) e
        (record { refuses = λ p z y es w. rw (h, good, is_described_lem s z y es (id_of b) (rw ei at l) (rw ei at u) w) })

    module _ (count : ℕ) (u : get_or s i 0 ≡ 65535) (m : count ≡ product (extents_of b)) where
      new : (z y : List ℕ) (es : List (ℕ × Entry)) → Agrees s z y es → is_described (id_of b) es ≡ false
      new z y es w = not_described s z y es (id_of b) (rw ei at l) (rw ei at u) w

      pub sda_many : (most : ℕ) → 4096 ≤ most → most < count → RefusedSDA t s TooManyItems
      unfolding check_sda
      sda_many most o k =
          subst (λ t. RefusedSDA t s TooManyItems) e
          (record { refuses = λ p z y es w. rw (h, good, new z y es w, ← m, lt-ltb 4096 count (omega arith)) })

      pub sda_fine : count ≤ 4096 → AcceptedSDA t s (record { shape = x; count = count })
      unfolding check_sda
      sda_fine k =
          subst (λ t. AcceptedSDA t s (record { shape = x; count = count })) e
          (record {
            accepts = λ p z y es w. rw (h, good, new z y es w, ← m, le-ltb 4096 count k);
            count = m;
            shape = shape_is (code_of b) (parameters_of b) (good_sda b) x g;
            length_good = h;
            good = good;
            small = k;
          })
