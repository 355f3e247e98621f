-- The parts of a plan's number, marked or not, are those of its field, and so it says to measure the field's item.
-- Assumes nothing.
use Prim.Native.Nat.{ℕ, ◌+◌, ◌*◌, ◌/◌, ◌%◌}
use mathlib.Core.Path.{◌≡◌}
use mathlib.Core.List.{List}
use native.Mathlib.Omega.{arith}
use Rattle.fdoca.specs.FieldType.{rule_of}
use Rattle.fdoca.specs.Item.{Field, field_length, measure}
use Rattle.field_types.specs.Layouts.{prefix_of}
use Rattle.field_types.proofs.Rows.{layout_back, prefix_below_4}
use Rattle.fields.specs.Plan.{entry_of, Proper}
use Rattle.walks.specs.Entry.{measure_entry}

-- the parts of the entry of f with the mark p, which is 0 in a plan that no walk has marked
module _ (f : Field) (p : ℕ) (h : Proper f) where
  abbrev marked : ℕ
  marked = entry_of f + 281474976710656 * p

  pub length_part_lem : marked % 65536 ≡ field_length f
  unfolding entry_of
  length_part_lem = omega (arith, h.length_fits)

  pub id_part : marked / 65536 % 256 ≡ f.id
  unfolding entry_of
  id_part = omega (arith, h.length_fits, h.id_fits)

  pub code_part : marked / 16777216 % 256 ≡ f.code
  unfolding entry_of
  code_part = omega (arith, h.length_fits, h.id_fits, h.code_fits)

  pub mode_part : marked / 4294967296 % 128 ≡ f.mode
  unfolding entry_of
  mode_part = omega (arith, h.length_fits, h.id_fits, h.code_fits, h.mode_fits, h.bias_fits)

  pub layout_part_lem : marked / 1099511627776 % 4 ≡ prefix_of (rule_of f.type).layout
  unfolding entry_of
  layout_part_lem = omega (arith, h.length_fits, h.id_fits, h.code_fits, h.mode_fits, h.bias_fits, prefix_below_4 (rule_of f.type).layout)

  pub entry_part : marked % 281474976710656 ≡ entry_of f
  unfolding entry_of
  entry_part = omega (arith, h.length_fits, h.id_fits, h.code_fits, h.mode_fits, h.bias_fits, prefix_below_4 (rule_of f.type).layout, h.digits_fit)

  pub mark_part : marked / 281474976710656 ≡ p
  unfolding entry_of
  mark_part = omega (arith, h.length_fits, h.id_fits, h.code_fits, h.mode_fits, h.bias_fits, prefix_below_4 (rule_of f.type).layout, h.digits_fit)

-- an entry says to measure its field's item
pub entry_measures : (f : Field) (p : ℕ) (s : List ℕ) → Proper f → measure_entry (entry_of f + 281474976710656 * p) s ≡ measure f s
unfolding measure_entry measure
entry_measures f p s h = simp (length_part_lem f p h, code_part f p h, mode_part f p h, layout_part_lem f p h, layout_back (rule_of f.type).layout)
