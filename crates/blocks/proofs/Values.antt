-- The value of a found item: the ways through `value`.
-- Assumes nothing.
use Rattle.std.specs.Prelude as code
use Rattle.std.specs.Option.{MatchOption, ok_or}
use Rattle.std.specs.Prelude.{if◌then◌else◌, None, Some, Ok, Err}
use mathlib.Core.Path.{◌≡◌, sym, ap, ◌∙◌}
use Prim.Native.Nat.{ℕ, ◌+◌, ◌-◌, ◌/◌, ◌%◌, ◌≤◌}
use native.Mathlib.Omega.{arith}
use native.Mathlib.Nat.{add-sub_cancel_left}
use mathlib.Core.Bool.{true, false}
use mathlib.Core.List.{List}
use mathlib.Core.Option.{none, some}
use lib.ListN.{length, take, drop, length-drop}
use lib.Seq.{length-take-le}
use Rattle.fdoca.specs.declared.Value.{Value}
use Rattle.fdoca.specs.declared.Value.TheVariants.{Null}
use Rattle.fdoca.specs.declared.Reason.TheVariants.{WrongKind}
use Rattle.fdoca.specs.declared.Refusal.{Refusal}
use Rattle.fdoca.specs.Returned.{reason_of, returned}
use Rattle.fdoca.proofs.Returned.{passed_on}
use Rattle.fdoca.specs.Basics.{Result, ◌>>=◌, the}
use Rattle.fdoca.specs.FieldType.{type_of}
use Rattle.fdoca.specs.Item.{field_length}
use Rattle.fdoca.specs.Walk.{Note}
use Rattle.fdoca.specs.Calls as calls
use Rattle.fdoca.specs.Calls.{item_at, value_of, reading_by, reading_of, read_by, value}
use Rattle.fdoca.proofs.ValueRows.{reading_fixed, at_most_8}
use Rattle.values.specs.declared.Reading.{Reading}
use Rattle.values.specs.Reading.{defined_reading, maybe_defined}
use Rattle.field_types.specs.declared.FieldType.{FieldType}
use Rattle.field_types.specs.Types as field_type
use Rattle.field_types.specs.Types.{defined_type}
use Rattle.walks.specs.declared.Found.{Found}
use Rattle.lookups.specs.Answer.{ItemAs}
use Rattle.blocks.proofs.Items.{TheItem, the_item, by_type}

-- what the call gives, by the item's note
abbrev behind : List ℕ → Note → calls.Reading → Result Value
behind x n r = the (if n.is_null then some Null else read_by r (value_of x n)) 23 n.start

abbrev read : List ℕ → Note → Result Value
read x n = the (reading_of n.field) 18 n.start >>= behind x n

-- an item that is not found
pub value_refused : (d x : List ℕ) (i : ℕ) (e : Refusal) → Err e ≡ returned (item_at d x i) → Err e ≡ returned (value d x i)
unfolding value
value_refused d x i e h = passed_on (item_at d x i) (read x) h

module _ (d x : List ℕ) (i : ℕ) (f : Found) (w : ItemAs (item_at d x i) x f) where
  abbrev t : TheItem d x i f
  t = the_item d x i f w

  by_note : value d x i ≡ read x t.note
  unfolding value
  by_note = rw t.is_item

  -- what the calls gave for its type code is its field's reading
  pub reading_known : (o : code.Option FieldType) (u : code.Option Reading) (Q : FieldType → Type 0) → MatchOption o (u ≡ None) Q
      → field_type.maybe_defined o ≡ type_of (f.entry / 16777216 % 256)
      → ((T : FieldType) → Q T → maybe_defined u ≡ reading_by (defined_type T) (f.entry % 65536) (f.entry / 549755813888 % 2)) → maybe_defined u ≡ reading_of t.note.field
  reading_known o u Q m e g =
      rw (t.size_is, t.bias_is) at (by_type d x i f w o (u ≡ None) Q (λ T. maybe_defined u ≡ reading_by T (f.entry % 65536) (f.entry / 549755813888 % 2)) m e g)

  module _ (u : code.Option Reading) (is_read : maybe_defined u ≡ reading_of t.note.field) where
    pub value_other : (r e : Refusal) → u ≡ None → Err e ≡ ok_or u r → r ≡ record { reason = WrongKind; place = f.start } → Err e ≡ returned (value d x i)
    unfolding reason_of
    value_other r e n g q = rw (same, q, t.start_is, by_note, unread)
      where
        same : e ≡ r
        same = let h = rw n at g in cc

        unread : reading_of t.note.field ≡ none
        unread = sym is_read ∙ ap maybe_defined n

    module _ (k : Reading) (y : u ≡ Some k) where
      known : reading_of t.note.field ≡ some (defined_reading k)
      known = sym is_read ∙ ap maybe_defined y

      pub value_null : f.null ≡ true → Ok Null ≡ returned (value d x i)
      value_null z = let n : t.note.is_null ≡ true = sym t.null_is ∙ z in rw (by_note, known, n)

      -- the bytes of a value
      abbrev bytes : List ℕ
      bytes = take (f.start + f.lead + f.value - (f.start + f.lead)) (drop (f.start + f.lead) x)

      bytes_are : bytes ≡ value_of x t.note
      bytes_are = ap (λ n. take n (drop (f.start + f.lead) x)) (add-sub_cancel_left (f.start + f.lead) f.value) ∙ t.value_is

      module _ (z : f.null ≡ false) where
        filled : length bytes ≡ f.entry % 65536
        filled =
            let (_, m) = t.good.filled (reading_fixed t.note.field (defined_reading k) known) in
            let n : t.note.value ≡ field_length t.note.field = m (sym t.null_is ∙ z) in
            let l : f.value ≤ length (drop (f.start + f.lead) x) = omega (arith, w.inside, length-drop (f.start + f.lead) x) in
            ap length (ap (λ n. take n (drop (f.start + f.lead) x)) (add-sub_cancel_left (f.start + f.lead) f.value))
            ∙ length-take-le f.value (drop (f.start + f.lead) x) l ∙ t.length_is ∙ n ∙ sym t.size_is

        pub value_short : length bytes ≤ 8
        value_short = omega (arith, filled, t.size_is, at_most_8 t.note.field t.good.field_good (defined_reading k) known)

        pub value_read_lem : (r : code.Result Value Refusal) → r ≡ returned (the (read_by (defined_reading k) bytes) 23 f.start) → r ≡ returned (value d x i)
        value_read_lem r a =
            let n : t.note.is_null ≡ false = sym t.null_is ∙ z in
            a
            ∙ ap (λ v. returned (the (read_by (defined_reading k) v) 23 f.start)) bytes_are
            ∙ ap (λ p. returned (the (read_by (defined_reading k) (value_of x t.note)) 23 p)) t.start_is
            ∙ sym (rw (by_note, known, n))
