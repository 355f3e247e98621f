-- How a plain code is read: by the type that it stands for.
-- Assumes nothing.
use Rattle.std.specs.Prelude as code
use Rattle.std.specs.Prelude.{Some, None}
use Rattle.std.specs.Option as code_option
use mathlib.Core.Path.{◌≡◌, refl, sym, ap, ◌∙◌}
use Prim.Native.Nat.{ℕ, ◌≤◌, ◌<◌}
use native.Mathlib.Omega.{arith}
use mathlib.Core.Bool.{false}
use mathlib.Core.Option.{Option, none, some}
use Rattle.fdoca.specs.Basics.{lookup, is_some}
use Rattle.fdoca.specs.FieldType as definition
use Rattle.fdoca.specs.FieldType.{types, type_of}
use Rattle.fdoca.specs.Calls.{reading_by}
use Rattle.fdoca.proofs.TypeRows.{plain_code_lem, plain_low}
use Rattle.field_types.specs.declared.FieldType.{FieldType}
use Rattle.field_types.specs.Types as types_specs
use Rattle.field_types.specs.Types.{defined_type}
use Rattle.values.specs.declared.Reading.{Reading}
use Rattle.values.specs.Reading.{maybe_defined, reading_if, reading_for}

module _ (p F b : ℕ) where
  -- no code of 128 or more is plain
  pub no_plain : 128 ≤ p → false ≡ is_some (reading_for p F b)
  no_plain h = go (lookup p types) refl
    where
      go : (o : Option definition.FieldType) → lookup p types ≡ o → false ≡ is_some (reading_if o F b)
      go none e = refl
      go (some T) e = absurd (let q = (plain_code_lem p T e).1 in let z : ⊥ = omega arith in z)

  below : p < 128 → type_of p ≡ lookup p types
  unfolding type_of
  below h = ap (λ c. lookup c types) (sym (plain_low p h))

  pub of_no_type : p < 128 → (o : code.Option FieldType) → types_specs.maybe_defined o ≡ type_of p → o ≡ None → false ≡ is_some (reading_for p F b)
  of_no_type h o e n = go (lookup p types) (sym (below h) ∙ sym e ∙ ap types_specs.maybe_defined n)
    where
      go : (x : Option definition.FieldType) → x ≡ none → false ≡ is_some (reading_if x F b)
      go x q = rw q refl

  pub of_a_type : p < 128 → (o : code.Option FieldType) → types_specs.maybe_defined o ≡ type_of p → (T : FieldType) → o ≡ Some T → (r : code.Option Reading)
      → maybe_defined r ≡ reading_by (defined_type T) F b → code_option.is_some r ≡ is_some (reading_for p F b)
  of_a_type h o e T n r m =
      let q : lookup p types ≡ some (defined_type T) = sym (below h) ∙ sym e ∙ ap types_specs.maybe_defined n in
      rw q (go r ∙ ap is_some m)
    where
      go : (r : code.Option Reading) → code_option.is_some r ≡ is_some (maybe_defined r)
      go None = refl
      go (Some k) = refl
