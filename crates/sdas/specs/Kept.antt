-- What is kept of an SDA in the tables of positions, sizes and plan entries.
use Rattle.std.specs.Prelude.{ℕ, ◌+◌, ◌*◌, ◌<◌, ◌≡◌, List, set}
use Rattle.std.proofs.Math.Option.{some}
use Rattle.fdoca.specs.Basics.{product}
use Rattle.fdoca.specs.FieldType.{FieldType, type_of}
use Rattle.fdoca.specs.Triplet.{id_of, code_of, extents_of}
use Rattle.fdoca.specs.Unfolding.{field_of}
use Rattle.fields.specs.Plan.{entry_of, Proper}
use Rattle.plans.specs.Tied.{lower_of}

-- The plan's entry for the field of an SDA's bytes t.
pub record EntryOf (t : List ℕ) (r : ℕ) : Type 0 where
  pub same : (T : FieldType) → type_of (code_of t) ≡ some T → r ≡ entry_of (field_of T t)
  pub proper : (T : FieldType) → type_of (code_of t) ≡ some T → (id_of t ≡ 0 → ⊥) → Proper (field_of T t)

-- The tables s, z, e with an SDA's id entered.
pub record PutSDA (t : List ℕ) (p : ℕ) (s z e s' z' e' : List ℕ) : Type 0 where
  pub entry : ℕ
  pub is_entry : EntryOf t entry
  pub id_fits : id_of t < 256
  pub positions : s' ≡ set s (id_of t) p
  pub sizes : z' ≡ set z (id_of t) (product (extents_of t) + 65536 * lower_of (extents_of t))
  pub entries : e' ≡ set e (id_of t) entry
