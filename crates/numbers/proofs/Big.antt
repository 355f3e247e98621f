-- The number of a run of digits in any base: one digit more at its end, and Horner's rule over the first digits.
-- Assumes nothing.
use mathlib.Core.Path.{◌≡◌, sym, ◌∙◌}
use Prim.Native.Nat.{ℕ, suc, ◌+◌, ◌*◌, ◌<◌, ◌≤◌, ◌^◌}
use native.Mathlib.Nat.{pow-zero, pow-suc, mul-one, zero-mul, suc-mul, add-mul, mul_assoc, add_assoc, mul-le-mul_right, pow-le-pow_right}
use native.Mathlib.Numerals.{add-one}
use native.Mathlib.Omega.{arith}
use mathlib.Core.List.{List, [], ◌∷◌, ◌++◌}
use lib.ListN.{length, get_or, take, length-append}
use lib.Seq.{take-suc}
use Rattle.fdoca.specs.Basics.{in_base}

module _ (B : ℕ) where
  pub base_append : (xs : List ℕ) (d : ℕ) → in_base B (xs ++ (d ∷ [])) ≡ in_base B xs * B + d
  unfolding in_base
  base_append [] d = rw (pow-zero, mul-one, zero-mul) (omega arith)
  base_append (x ∷ xs) d =
      let e : length (xs ++ (d ∷ [])) ≡ suc (length xs) = length-append xs (d ∷ []) ∙ omega arith in
      rw (e, pow-suc, ← mul_assoc, base_append xs d, add-mul) (sym (add_assoc _ _ d))

  -- below B ^ k, with one digit more below B ^ (k + 1)
  pub one_more : (k n d : ℕ) → n < B ^ k → d < B → n * B + d < B ^ (k + 1)
  one_more k n d l h =
      let m : suc n * B ≤ B ^ k * B = mul-le-mul_right B l in
      rw (add-one, pow-suc) (let q : n * B + B ≤ B ^ k * B = rw suc-mul at m in omega arith)

  -- with one digit more within 64 bits
  pub room : (most k n d : ℕ) → 0 < B → B ^ most ≤ 2 ^ 64 → k < most → n < B ^ k → d < B → n * B + d < 2 ^ 64
  room most k n d b m h l j =
      let q : B ^ (k + 1) ≤ B ^ most = pow-le-pow_right b (omega arith) in
      omega (arith, one_more k n d l j)

  -- the number of the first i digits
  pub taken_more : (xs : List ℕ) (i n d : ℕ) → i < length xs → d ≡ get_or xs i 0 → n ≡ in_base B (take i xs) → n * B + d ≡ in_base B (take (i + 1) xs)
  taken_more xs i n d l e h = rw (add-one, take-suc xs i 0 l, base_append, ← h, e)
