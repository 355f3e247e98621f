-- Laws of the types: the nullable forms, the layout behind a number, and the type whose size is in digits.
-- Assumes nothing.
use Rattle.std.specs.Prelude.{Option, None, Some}
use mathlib.Core.Path.{◌≡◌, refl, ap}
use Prim.Native.Nat.{ℕ, ◌+◌, ◌<◌}
use native.Mathlib.Omega.{arith}
use mathlib.Core.Bool.{true, false}
use mathlib.Core.Option.{none}
use Rattle.fdoca.specs.FieldType.{plain, type_of, rule_of, fixed, counted, terminated, signed_two, unsigned_one}
use Rattle.fdoca.specs.FieldType as definition
use Rattle.fdoca.proofs.TypeRows.{plain_low, plain_high}
use Rattle.field_types.specs.Layouts.{numbered, layout_of, prefix_of, form_of}
use Rattle.field_types.specs.declared.FieldType.{FieldType}
use Rattle.field_types.specs.declared.FieldType.TheVariants.{FixedBytes, VariableBytes, TerminatedBytes, ShortBytes, Integer, ReversedInteger, PackedDecimal, HexFloat, ReversedFloat, BinaryFloat}
use Rattle.field_types.specs.Types.{defined_type, maybe_defined}
use Rattle.field_types.specs.Rows.{rule_for}
use Rattle.field_types.specs.Parameters.{layout_for, is_digits, in_digits}

-- a code and its nullable form have the same plain code, and so the same type and the same rule
pub plain_nullable : (code : ℕ) → code < 128 → plain (code + 128) ≡ plain code
plain_nullable code l = omega (arith, plain_low code l, plain_high (code + 128) (omega arith))

pub type_nullable : (code : ℕ) → code < 128 → type_of (code + 128) ≡ type_of code
unfolding type_of
type_nullable code l = rw (plain_nullable code l)

pub row_nullable : (code : ℕ) → code < 128 → rule_for (type_of (code + 128)) ≡ rule_for (type_of code)
row_nullable code l = ap rule_for (type_nullable code l)

-- X'00' and X'80' stand for no type
pub no_type : (type_of 0x00 ≡ none) × (type_of 0x80 ≡ none)
unfolding type_of
no_type = (refl, refl)

-- the layout behind its number
pub layout_back : (l : definition.Layout) → layout_of (numbered (prefix_of l)) ≡ l
unfolding layout_of numbered prefix_of
layout_back fixed = refl
layout_back (counted signed_two) = refl
layout_back (counted unsigned_one) = refl
layout_back terminated = refl

pub prefix_below_4 : (l : definition.Layout) → prefix_of l < 4
unfolding prefix_of
prefix_below_4 fixed = omega arith
prefix_below_4 (counted signed_two) = omega arith
prefix_below_4 (counted unsigned_one) = omega arith
prefix_below_4 terminated = omega arith

-- a packed decimal's size alone is in digits
module _ (code : ℕ) where
  pub no_digits : (o : Option FieldType) → maybe_defined o ≡ type_of code → o ≡ None → false ≡ in_digits code
  unfolding in_digits layout_for rule_for form_of numbered prefix_of
  no_digits o e h = rw (← e, h) refl

  module _ (T : FieldType) (e : maybe_defined (Some T) ≡ type_of code) where
    pub packed_digits : T ≡ PackedDecimal → true ≡ in_digits code
    unfolding in_digits layout_for rule_for rule_of form_of
    packed_digits k = rw (← e, k) refl

    pub other_digits : (T ≡ PackedDecimal → ⊥) → false ≡ in_digits code
    unfolding in_digits layout_for rule_for rule_of form_of numbered prefix_of
    other_digits k = rw (← e) (go T k)
      where
        go : (T : FieldType) → (T ≡ PackedDecimal → ⊥) → false ≡ is_digits (form_of (rule_of (defined_type T)).sizes (rule_of (defined_type T)).layout)
        go FixedBytes k = refl
        go VariableBytes k = refl
        go TerminatedBytes k = refl
        go ShortBytes k = refl
        go Integer k = refl
        go ReversedInteger k = refl
        go PackedDecimal k = absurd (k refl)
        go HexFloat k = refl
        go ReversedFloat k = refl
        go BinaryFloat k = refl
