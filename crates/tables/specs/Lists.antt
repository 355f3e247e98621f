-- What contracts see of the tables: three lists of 256 numbers each.
use Rattle.std.specs.Prelude.{ℕ, List}

-- Of each id the place of its triplets, 65535 where none describe it; its count and, 65,536 times, the product of its lower extents; and the plan
-- entry of an SDA's field, 0 for another id.
pub record Lists : Type 0 where
  pub starts : List ℕ
  pub sizes : List ℕ
  pub entries : List ℕ
