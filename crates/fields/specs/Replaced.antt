-- The plan's entry of a field where a group triplet gives the length (document 02, Q-4).
use Rattle.std.specs.Prelude.{ℕ, ◌≡◌}
use Rattle.std.proofs.Math.Option.{some}
use Rattle.fdoca.specs.FieldType.{type_of}
use Rattle.fdoca.specs.Item.{Field}
use Rattle.fdoca.specs.Unfolding.{column}
use Rattle.fields.specs.Plan.{entry_of, Proper}

pub record Replaced (entry a b r : ℕ) : Type 0 where
  pub same : (f : Field) → Proper f → type_of f.code ≡ some f.type → entry ≡ entry_of f → r ≡ entry_of (column a b f)
