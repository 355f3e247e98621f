-- The rules of the code (document 01, "Field types"), and what they mean (document 02, Q-3).
use Rattle.std.specs.Prelude.{ℕ, ◌≡◌, false, [], ◌∷◌, Option, None, Some}
use Rattle.std.proofs.Math.Option.{none, some}
use Rattle.std.proofs.Math.Option as defined_option
use Rattle.fdoca.specs.FieldType.{FieldType, fixed, up_to, one_of, digits_up_to, rule, rule_of}
use Rattle.fdoca.specs.FieldType as definition
use Rattle.field_types.specs.declared.Sizes.{Sizes}
use Rattle.field_types.specs.declared.Sizes.TheVariants.{UpTo, Two, Three, DigitsUpTo}
use Rattle.field_types.specs.declared.Rule.{Rule}
use Rattle.field_types.specs.Layouts.{form_of}

-- The definitions' sizes, and their default.
unfoldable pub sizes_of : Sizes → definition.Sizes
sizes_of (UpTo n) = up_to n
sizes_of (Two a b) = one_of (a ∷ b ∷ [])
sizes_of (Three a b c) = one_of (a ∷ b ∷ c ∷ [])
sizes_of (DigitsUpTo n) = digits_up_to n

unfoldable pub given : Option ℕ → defined_option.Option ℕ
given None = none
given (Some n) = some n

-- A rule of the code is one of the definitions.
pub record IsRule (r : Rule) (d : definition.Rule) : Type 0 where
  pub layout : r.layout ≡ form_of d.sizes d.layout
  pub sizes : sizes_of r.sizes ≡ d.sizes
  pub default : given r.default ≡ d.default
  pub has_mode : r.has_mode ≡ d.has_mode
  pub has_bias : r.has_bias ≡ d.has_bias

-- The rule by which a code is judged: where there is no type, no size is allowed.
unfoldable pub rule_for : defined_option.Option FieldType → definition.Rule
rule_for none = rule fixed (one_of []) none false false
rule_for (some T) = rule_of T
