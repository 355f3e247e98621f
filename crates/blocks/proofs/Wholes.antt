-- The whole number that a found item's value is.
-- Assumes nothing.
use Rattle.std.specs.Prelude.{if◌then◌else◌, Option, None, Some, Ok, Err}
use Rattle.std.specs.Option.{MatchOption, ok_or}
use mathlib.Core.Path.{◌≡◌, refl, sym, ap, ◌∙◌}
use Prim.Native.Nat.{ℕ, ◌+◌, ◌-◌, ◌/◌, ◌%◌, ◌≤◌, ◌<◌}
use native.Mathlib.Omega.{arith}
use native.Mathlib.Nat.{add-sub_cancel_left}
use mathlib.Core.Bool.{Bool, true, false}
use mathlib.Core.List.{List, [], ◌∷◌}
use mathlib.Core.Option.{none, some}
use lib.IntN.{ℤ, pos}
use lib.ListN.{length, take, drop, length-take}
use mir.Syntax.{w64}
use mir.Val.{SFits, to_z, of_z}
use mir.ValLaws.{to_z-of_z}
use Rattle.fdoca.specs.declared.Reason.TheVariants.{WrongKind}
use Rattle.fdoca.specs.declared.Refusal.{Refusal}
use Rattle.fdoca.specs.Returned.{reason_of, returned}
use Rattle.fdoca.specs.Basics.{ok, ◌>>=◌, the}
use Rattle.fdoca.specs.FieldType.{fixed_bytes, variable_bytes, terminated_bytes, short_bytes, integer, reversed_integer, packed_decimal, hex_float, reversed_float, binary_float, Size, in_bytes, fixed, one_of, allows, rule_of, type_of}
use Rattle.fdoca.specs.FieldType as definition
use Rattle.fdoca.proofs.Returned.{passed_on}
use Rattle.fdoca.specs.Calls.{item_at, value_of, whole_of, whole_number, whole_answer}
use Rattle.field_types.specs.declared.FieldType.{FieldType}
use Rattle.field_types.specs.Types.{defined_type, maybe_defined}
use Rattle.fdoca.proofs.ValueRows.{sized, one_below}
use Rattle.numbers.specs.Whole.{whole_up_to_8}
use Rattle.numbers.proofs.Whole.{read_integer, read_reversed}
use Rattle.walks.specs.declared.Found.{Found}
use Rattle.lookups.specs.Answer.{ItemAs}
use Rattle.blocks.specs.Order.{order_of}
use Rattle.blocks.proofs.Items.{TheItem, the_item, by_type}

-- the field lengths of whole numbers
eight : (z : Size) → allows (one_of (2 ∷ 4 ∷ 8 ∷ [])) z ≡ true → in_bytes z ≤ 8
eight z h = let l : in_bytes z < 9 = one_below (in_bytes z) 9 (2 ∷ 4 ∷ 8 ∷ []) refl (sized (2 ∷ 4 ∷ 8 ∷ []) z h) in omega arith

-- the types that have no whole number
not_whole : (T : definition.FieldType) (bs : List ℕ) → None ≡ order_of T → whole_of T bs ≡ none
unfolding whole_of
not_whole fixed_bytes bs n = refl
not_whole variable_bytes bs n = refl
not_whole terminated_bytes bs n = refl
not_whole short_bytes bs n = refl
not_whole integer bs n = cc
not_whole reversed_integer bs n = cc
not_whole packed_decimal bs n = refl
not_whole hex_float bs n = refl
not_whole reversed_float bs n = refl
not_whole binary_float bs n = refl

-- a whole number of up to eight bytes, by its type's order
whole_by : (T : definition.FieldType) (F : Size) (bs : List ℕ) (b : Bool) → Some b ≡ order_of T → allows (rule_of T).sizes F ≡ true
    → ((rule_of T).layout ≡ fixed → length bs ≤ in_bytes F) → whole_of T bs ≡ some (whole_up_to_8 bs b)
unfolding rule_of
whole_by fixed_bytes F bs b e a n = cc
whole_by variable_bytes F bs b e a n = cc
whole_by terminated_bytes F bs b e a n = cc
whole_by short_bytes F bs b e a n = cc
whole_by integer F bs b e a n = let q : b ≡ false = cc in rw q (read_integer bs (omega (arith, eight F a, n refl)))
whole_by reversed_integer F bs b e a n = let q : b ≡ true = cc in rw q (read_reversed bs (omega (arith, eight F a, n refl)))
whole_by packed_decimal F bs b e a n = cc
whole_by hex_float F bs b e a n = cc
whole_by reversed_float F bs b e a n = cc
whole_by binary_float F bs b e a n = cc

-- an item that is not found
pub whole_refused : (d x : List ℕ) (i : ℕ) (e : Refusal) → Err e ≡ returned (item_at d x i) → Err e ≡ whole_answer (whole_number d x i)
unfolding whole_number
whole_refused d x i e h = passed_on (item_at d x i >>= (λ n. the (whole_of n.field.type (value_of x n)) 18 n.start >>= (λ z. ok (n.is_null, if n.is_null then pos 0 else z)))) _ (passed_on (item_at d x i) _ h)

module _ (d x : List ℕ) (i : ℕ) (f : Found) (w : ItemAs (item_at d x i) x f) where
  abbrev t : TheItem d x i f
  t = the_item d x i f w

  -- what the calls gave for its type code is its field's order
  pub order_known : (o : Option FieldType) (u : Option Bool) (Q : FieldType → Type 0) → MatchOption o (u ≡ None) Q → maybe_defined o ≡ type_of (f.entry / 16777216 % 256)
      → ((T : FieldType) → Q T → u ≡ order_of (defined_type T)) → u ≡ order_of t.note.field.type
  order_known o u Q = by_type d x i f w o (u ≡ None) Q (λ T. u ≡ order_of T)

  module _ (u : Option Bool) (known : u ≡ order_of t.note.field.type) where
    pub whole_other : (r e : Refusal) → u ≡ None → Err e ≡ ok_or u r → r ≡ record { reason = WrongKind; place = f.start } → Err e ≡ whole_answer (whole_number d x i)
    unfolding whole_number reason_of
    whole_other r e n g q = rw (same, q, t.start_is, t.is_item, not_whole t.note.field.type (value_of x t.note) (sym n ∙ known))
      where
        same : e ≡ r
        same = let h = rw n at g in cc

    module _ (b : Bool) (y : u ≡ Some b) where
      is_whole : whole_of t.note.field.type (value_of x t.note) ≡ some (whole_up_to_8 (value_of x t.note) b)
      is_whole =
          whole_by t.note.field.type t.note.field.size (value_of x t.note) b (sym y ∙ known) t.good.field_good.allowed
          (λ q. omega (arith, (t.good.filled q).0, length-take t.note.value (drop (t.note.start + t.note.lead) x)))

      pub whole_null : f.null ≡ true → Ok None ≡ whole_answer (whole_number d x i)
      unfolding whole_number
      whole_null q = let k : t.note.is_null ≡ true = sym t.null_is ∙ q in rw (t.is_item, is_whole, k)

      pub whole_read : (z : ℤ) → f.null ≡ false → SFits w64 z
          → z ≡ whole_up_to_8 (take (f.start + f.lead + f.value - (f.start + f.lead)) (drop (f.start + f.lead) x)) b
          → Ok (Some (to_z w64 (of_z w64 z))) ≡ whole_answer (whole_number d x i)
      unfolding whole_number
      whole_read z q s e =
          let k : t.note.is_null ≡ false = sym t.null_is ∙ q in
          let v : take (f.start + f.lead + f.value - (f.start + f.lead)) (drop (f.start + f.lead) x) ≡ value_of x t.note =
          ap (λ n. take n (drop (f.start + f.lead) x)) (add-sub_cancel_left (f.start + f.lead) f.value) ∙ t.value_is in
          let m : z ≡ whole_up_to_8 (value_of x t.note) b = e ∙ ap (λ l. whole_up_to_8 l b) v in
          rw (to_z-of_z w64 z s, t.is_item, is_whole, k, m)
