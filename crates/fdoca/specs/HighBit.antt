-- Blocks as document 01 had them before document 02's Q-8, with the low bits of null indicators not looked at: what Q-8's sentence on the accepted blocks
-- compares with. No call goes by it.
use Rattle.std.specs.Prelude.{ℕ, ◌+◌, ◌≤◌, ◌≡◌, true, List, [], ◌∷◌, leb, ltb, length, drop, if◌then◌else◌}
use Rattle.std.proofs.Math.Option.{some}
use Rattle.std.proofs.Math.ListN.{get_elem?}
use Rattle.fdoca.specs.Basics.{Result, ok, ◌>>=◌, ◌>>◌, reject}
use Rattle.fdoca.specs.FieldType.{Layout, rule_of, nullable}
use Rattle.fdoca.specs.Item.{Field, field_length, Measured, refused, item, measure_value, indicated}
use Rattle.fdoca.specs.Walk.{Note, item_length, note_of}
use Rattle.fdoca.specs.Check.{check}
use Rattle.fdoca.specs.Reasons.{Unfolds, BadIndicator}

-- 01, "Field types": "high bit 1 means that the item is that byte alone, high bit 0 that the item goes on. Its other bits are not looked at."
unfoldable pub nullable_by_high_bit : Layout → (mode F : ℕ) → List ℕ → Measured
nullable_by_high_bit l mode F [] = refused 13
nullable_by_high_bit l mode F (b ∷ s) = if leb 0x80 b then item true 1 0 0 else indicated (measure_value l mode F s)

unfoldable pub measure_by_high_bit : Field → List ℕ → Measured
measure_by_high_bit f s =
    if nullable f.code then nullable_by_high_bit (rule_of f.type).layout f.mode (field_length f) s
    else measure_value (rule_of f.type).layout f.mode (field_length f) s

-- The walk by some way of measuring: the items of the fields from position p on, where the bytes s stand.
unfoldable pub walk_with : (Field → List ℕ → Measured) → (p : ℕ) → List Field → List ℕ → Result (List Note)
walk_with measuring p [] s = reject (ltb 0 (length s)) 16 p >> ok []
walk_with measuring p (f ∷ fs) s =
    note_of f p (measuring f s) >>= λ n.
    walk_with measuring (p + item_length n) fs (drop (item_length n) s) >>= λ ns.
    ok (n ∷ ns)

-- A block that is accepted by some way of measuring, and its items: the descriptor is accepted, and the data, within its limit, is the items of the
-- unfolding; with rows to the end, of the unfolding with some number of passes, at most 4,096 items.
pub record AcceptedWith (measuring : Field → List ℕ → Measured) (d s : List ℕ) (ns : List Note) : Type 0 where
  pub count : ℕ
  pub checks : check d ≡ ok count
  pub fits : length s ≤ 32768
  pub fields : List Field
  pub unfolds : Unfolds d fields
  pub few : length fields ≤ 4096
  pub walks : walk_with measuring 0 fields s ≡ ok ns

-- No null indicator of the items is X'01' to X'7F'.
abbrev pub NoneBad : List ℕ → List Note → Type 0
NoneBad s ns = (k : ℕ) (i : Note) → get_elem? ns k ≡ some i → BadIndicator i.field (drop i.start s) → ⊥
