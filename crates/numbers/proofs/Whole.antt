-- The whole number of up to eight bytes: the ways through `read`, and what it is of the two whole-number types.
-- Assumes nothing.
use mathlib.Core.Path.{◌≡◌, refl, ◌∙◌}
use Prim.Native.Nat.{ℕ, ◌*◌, ◌<◌, ◌≤◌, ◌^◌}
use native.Mathlib.Omega.{arith}
use mathlib.Core.Bool.{Bool, true, false}
use mathlib.Core.List.{List, [], ◌∷◌}
use mathlib.Core.Option.{some}
use lib.IntN.{ℤ, pos}
use lib.ListN.{length}
use mir.Syntax.{w64}
use mir.Val.{SFits, to_z, of_z}
use mir.ValLaws.{to_z-of_z}
use borrow.Author.Tests.{le-leb, lt-leb}
use Rattle.fdoca.specs.Basics.{big, in_base}
use Rattle.fdoca.specs.FieldType.{integer, reversed_integer}
use Rattle.fdoca.specs.Calls.{ordered, signed, whole_of}
use Rattle.numbers.specs.Whole.{twos, whole_up_to_8}
use Rattle.fdoca.proofs.Digits.{ordered_length}
use Rattle.numbers.proofs.Sign.{by_half}

pub no_bytes : (s : List ℕ) (reversed : Bool) → length s ≡ 0 → pos 0 ≡ whole_up_to_8 s reversed
unfolding whole_up_to_8 ordered signed big in_base
no_bytes [] true l = refl
no_bytes [] false l = refl
no_bytes (b ∷ s) reversed l = absurd (let z : ⊥ = omega arith in z)

module _ (s : List ℕ) (reversed : Bool) where
  pub too_long_lem : 8 < length s → pos 0 ≡ whole_up_to_8 s reversed
  unfolding whole_up_to_8
  too_long_lem l = simp (lt-leb _ _ l)

  pub by_sign : (h n : ℕ) (z : ℤ) → length s ≤ 8 → n ≡ big (ordered s reversed) → 2 * h ≡ 256 ^ length s → SFits w64 z → z ≡ twos h n → to_z w64 (of_z w64 z) ≡ whole_up_to_8 s reversed
  unfolding whole_up_to_8
  by_sign h n z l d e f k =
      let t : 2 * h ≡ 256 ^ length (ordered s reversed) = rw ordered_length e in
      to_z-of_z w64 z f ∙ k ∙ simp (le-leb _ _ l, d) (by_half (ordered s reversed) h t)

-- for callers: `read` gives what the definitions say of a whole-number type
module _ (s : List ℕ) (l : length s ≤ 8) where
  pub read_integer : whole_of integer s ≡ some (whole_up_to_8 s false)
  unfolding whole_of whole_up_to_8 ordered
  read_integer = simp (le-leb _ _ l)

  pub read_reversed : whole_of reversed_integer s ≡ some (whole_up_to_8 s true)
  unfolding whole_of whole_up_to_8 ordered
  read_reversed = simp (le-leb _ _ l)
