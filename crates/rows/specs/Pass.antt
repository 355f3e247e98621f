-- One pass over the repeated layout of rows to the end (document 02, Q-5).
use Rattle.std.specs.Prelude.{ℕ, ◌+◌, ◌/◌, ◌%◌, ◌≤◌, ◌≡◌, Bool, ◌&&◌, List, eqb, length, get_or}
use Rattle.std.proofs.Math.Option.{some}
use Rattle.fdoca.specs.Basics.{lookup}
use Rattle.fdoca.specs.Triplet.{Group, taken}
use Rattle.fdoca.specs.Item.{Field}
use Rattle.fdoca.specs.Unfolding.{Described, fields_referred}
use Rattle.plans.specs.Tied.{described_by, Takes, Tied}
use Rattle.plans.specs.Writing.{group_at}

-- The layout of a group: the list of what it refers to, taken once.
abbrev pub layout_list : List ℕ → Group → List Field
layout_list d g = fields_referred (taken g) (lookup g.ref (described_by d))

-- The fields of a pass: the layout of the group at g.
unfoldable pub pass_list : List ℕ → (g : ℕ) → List Field
pass_list d g = layout_list d (group_at d g)

-- The group at g refers to a described id, of which it can take its elements.
pub record PassAt (d : List ℕ) (g : ℕ) : Type 0 where
  pub inside : g + 3 ≤ length d
  pub to : Described
  pub known : lookup (group_at d g).ref (described_by d) ≡ some to
  pub takes : Takes (taken (group_at d g)) to

-- Of an RLO or a GDA, whose entry is 0, a whole pass has room in a plan of that size. An SDA's pass may be longer, and is cut.
abbrev pub Room : (d e : List ℕ) → (g size : ℕ) → Type 0
Room d e g size = get_or e (get_or d g 0) 0 ≡ 0 → length (pass_list d g) ≤ size

-- The tables of a descriptor, whatever the sizes.
pub record TiedSome (d s e : List ℕ) : Type 0 where
  pub sizes : List ℕ
  pub tied : Tied d s sizes e

-- A plan's entry is that of an X'01' that is not nullable, with F 0.
unfoldable pub no_data : (entry : ℕ) → Bool
no_data entry = eqb (entry / 16777216 % 256) 0x01 && eqb (entry % 65536) 0
