-- The packed decimal that a found item's value is: the ways through `packed` and `unpacked`.
-- Assumes nothing.
use Rattle.std.specs.Prelude as code
use Rattle.std.specs.Option.{option_eq, ok_or}
use Rattle.std.specs.Prelude.{if◌then◌else◌, None, Some, Ok, Err}
use mathlib.Core.Path.{◌≡◌, refl, sym, ap, ◌∙◌}
use Prim.Native.Nat.{ℕ, ◌+◌, ◌-◌, ◌*◌, ◌/◌, ◌%◌, ◌≤◌}
use native.Mathlib.Omega.{arith}
use native.Mathlib.Nat.{add-sub_cancel_left}
use mathlib.Core.Bool.{Bool, true, false, not, ◌&&◌}
use mathlib.Core.List.{List}
use mathlib.Core.Option.{Option, none, some, some-injective}
use lib.Dec.{leb}
use lib.IntN.{ℤ, pos}
use lib.ListN.{take, drop}
use mir.Syntax.{w64}
use mir.Val.{SFits, to_z, of_z}
use mir.ValLaws.{to_z-of_z}
use borrow.Author.Tests.{leb-true}
use Rattle.fdoca.specs.declared.Decimal.{Decimal}
use Rattle.fdoca.specs.declared.Reason.TheVariants.{WrongKind, BadDigit}
use Rattle.fdoca.specs.declared.Refusal.{Refusal}
use Rattle.fdoca.specs.Returned.{reason_of, returned, option_of}
use Rattle.fdoca.proofs.Returned.{passed_on}
use Rattle.fdoca.specs.Basics.{Result, ok, ◌>>=◌, the}
use Rattle.fdoca.specs.FieldType as definition
use Rattle.fdoca.specs.FieldType.{packed_decimal, type_of, Size, bytes, digits, fixed, rule_of}
use Rattle.fdoca.specs.Walk.{Note}
use Rattle.fdoca.specs.Packed.{packed_number}
use Rattle.fdoca.specs.Calls.{item_at, value_of, digits_of, packed, decimal_answer}
use Rattle.fdoca.proofs.Tests.{and_left, and_right}
use Rattle.field_types.specs.declared.FieldType.{FieldType}
use Rattle.field_types.specs.declared.FieldType.TheVariants.{FixedBytes, VariableBytes, TerminatedBytes, ShortBytes, Integer, ReversedInteger, PackedDecimal, HexFloat, ReversedFloat, BinaryFloat}
use Rattle.field_types.specs.contracts.FieldTypePartialEq.TheImpl.{eq-value}
use Rattle.field_types.specs.Types.{maybe_defined}
use Rattle.fdoca.proofs.Fields.{digits_packed, packed_digits}
use Rattle.fields.specs.Plan.{digits_part}
use Rattle.walks.specs.declared.Found.{Found}
use Rattle.lookups.specs.Answer.{ItemAs}
use Rattle.blocks.specs.Packing.{digits_in, Packing, numbered, read_at}
use Rattle.blocks.proofs.Items.{TheItem, the_item, type_known}

-- what the read gives, by the item's note
abbrev read : List ℕ → Note → Result (Bool × ℤ × ℕ)
read x n =
    the (digits_of n.field.size) 18 n.start
    >>= (λ p. the (if n.is_null then some (pos 0) else packed_number p.0 (value_of x n)) 20 n.start >>= (λ z. ok (n.is_null, z, p.1)))

-- an item that is not found
pub packed_refused : (d x : List ℕ) (i : ℕ) (e : Refusal) → Err e ≡ returned (item_at d x i) → Err e ≡ decimal_answer (packed d x i)
unfolding packed
packed_refused d x i e h = passed_on (item_at d x i >>= read x) _ (passed_on (item_at d x i) _ h)

-- the test of the type
abbrev is_packed : code.Option FieldType → Bool
is_packed o = option_eq eq-value.it o (Some PackedDecimal)

by_not : (b : Bool) → false ≡ not b → b ≡ true
by_not true h = refl
by_not false h = h

packed_type : (o : code.Option FieldType) (T : definition.FieldType) → maybe_defined o ≡ some T → is_packed o ≡ true → T ≡ packed_decimal
packed_type None T k h = cc
packed_type (Some FixedBytes) T k h = cc
packed_type (Some VariableBytes) T k h = cc
packed_type (Some TerminatedBytes) T k h = cc
packed_type (Some ShortBytes) T k h = cc
packed_type (Some Integer) T k h = cc
packed_type (Some ReversedInteger) T k h = cc
packed_type (Some PackedDecimal) T k h = sym (some-injective packed_decimal T k)
packed_type (Some HexFloat) T k h = cc
packed_type (Some ReversedFloat) T k h = cc
packed_type (Some BinaryFloat) T k h = cc

test_packed : (o : code.Option FieldType) → maybe_defined o ≡ some packed_decimal → is_packed o ≡ true
test_packed None k = cc
test_packed (Some FixedBytes) k = cc
test_packed (Some VariableBytes) k = cc
test_packed (Some TerminatedBytes) k = cc
test_packed (Some ShortBytes) k = cc
test_packed (Some Integer) k = cc
test_packed (Some ReversedInteger) k = cc
test_packed (Some PackedDecimal) k = refl
test_packed (Some HexFloat) k = cc
test_packed (Some ReversedFloat) k = cc
test_packed (Some BinaryFloat) k = cc

module _ (d x : List ℕ) (i : ℕ) (f : Found) (w : ItemAs (item_at d x i) x f) (o : code.Option FieldType) (eo : maybe_defined o ≡ type_of (f.entry / 16777216 % 256)) where
  abbrev t : TheItem d x i f
  t = the_item d x i f w

  by_note : packed d x i ≡ read x t.note
  unfolding packed
  by_note = rw t.is_item

  known : maybe_defined o ≡ some t.note.field.type
  known = type_known d x i f w o eo

  pub packed_other : (e : Refusal) → true ≡ not (is_packed o) → e ≡ record { reason = WrongKind; place = f.start } → Err e ≡ decimal_answer (packed d x i)
  unfolding reason_of
  packed_other e n q = rw (q, t.start_is, by_note) (go t.note.field.size refl)
    where
      go : (z : Size) → t.note.field.size ≡ z → Err (record { reason = WrongKind; place = t.note.start }) ≡ decimal_answer (the (digits_of z) 18 t.note.start >>= (λ p. the (if t.note.is_null then some (pos 0) else packed_number p.0 (value_of x t.note)) 20 t.note.start >>= (λ z. ok (t.note.is_null, z, p.1))))
      go (bytes F) e = refl
      go (digits p q) e = let k = digits_packed t.note.field t.good.field_good p q e in let h = test_packed o (known ∙ ap some k) in cc

  module _ (packed_test : false ≡ not (is_packed o)) where
    type_is : t.note.field.type ≡ packed_decimal
    type_is = packed_type o t.note.field.type known (by_not (is_packed o) packed_test)

    -- the digits of the field, and what the entry tells of them
    record Sized : Type 0 where
      p : ℕ
      fraction : ℕ
      size_is : t.note.field.size ≡ digits p fraction
      few : p ≤ 18
      odd_told : f.entry / 4398046511104 % 64 % 2 ≡ p % 2
      fraction_told : f.entry / 4398046511104 % 64 / 2 ≡ fraction

    sized : Sized
    unfolding rule_of digits_part
    sized = go t.note.field.size refl
      where
        go : (z : Size) → t.note.field.size ≡ z → Sized
        go (bytes F) e = absurd (packed_digits t.note.field t.good.field_good type_is F e)
        go (digits p q) e =
            let a : (leb 1 p && leb p 18 && leb q p) ≡ true = rw (type_is, e) at t.good.field_good.allowed in
            let b : (leb 1 p && leb p 18) ≡ true = and_left (leb 1 p && leb p 18) (leb q p) a in
            let m : f.entry / 4398046511104 % 64 ≡ p % 2 + 2 * q = rw e at t.digits_are in
            record {
              p = p;
              fraction = q;
              size_is = e;
              few = leb-true p 18 (and_right (leb 1 p) (leb p 18) b);
              odd_told = omega arith;
              fraction_told = omega arith;
            }

    pub packed_null : f.null ≡ true → Ok (record { value = None; fraction = f.entry / 4398046511104 % 64 / 2 }) ≡ decimal_answer (packed d x i)
    packed_null z = let k : t.note.is_null ≡ true = sym t.null_is ∙ z in rw (by_note, sized.size_is, k, sized.fraction_told)

    module _ (z : f.null ≡ false) where
      null_is : t.note.is_null ≡ false
      null_is = sym t.null_is ∙ z

      value_long : f.value ≡ sized.p / 2 + 1
      unfolding rule_of
      value_long =
          let l : (rule_of t.note.field.type).layout ≡ fixed = rw type_is in
          t.length_is ∙ (t.good.filled l).1 null_is ∙ rw sized.size_is

      abbrev part : ℕ
      part = f.entry / 4398046511104 % 64

      digits_are : digits_in f.value part ≡ sized.p
      digits_are = omega (arith, value_long, sized.odd_told)

      pub is_packing : Packing x (f.start + f.lead) f.value part f.start
      is_packing =
          record {
            inside = omega (arith, w.inside);
            small = omega (arith, w.small);
            some_bytes = omega (arith, value_long);
            few = omega (arith, digits_are, sized.few);
            part_small = omega arith;
            place = omega (arith, w.small);
          }

      pub packed_value : (r : code.Result Decimal Refusal) → r ≡ decimal_answer (read_at x (f.start + f.lead) f.value part f.start) → r ≡ decimal_answer (packed d x i)
      unfolding read_at
      packed_value r q =
          let e : read_at x (f.start + f.lead) f.value part f.start ≡ numbered f.start (part / 2) (packed_number sized.p (value_of x t.note)) =
          rw (digits_are, t.value_is) in
          q
          ∙ ap decimal_answer (e ∙ ap (λ n. numbered n (part / 2) (packed_number sized.p (value_of x t.note))) t.start_is
          ∙ ap (λ n. numbered t.note.start n (packed_number sized.p (value_of x t.note))) sized.fraction_told)
          ∙ rw (by_note, sized.size_is, null_is)

-- the ways through `unpacked`
module _ (s : List ℕ) (from size part start : ℕ) (h : Packing s from size part start) where
  abbrev bs : List ℕ
  bs = take (from + size - from) (drop from s)

  bytes_are : bs ≡ take size (drop from s)
  bytes_are = ap (λ n. take n (drop from s)) (add-sub_cancel_left from size)

  module _ (u : code.Option ℤ) (e : u ≡ option_of (packed_number (digits_in size part) bs)) where
    is_read : u ≡ option_of (packed_number (digits_in size part) (take size (drop from s)))
    is_read = e ∙ ap (λ b. option_of (packed_number (digits_in size part) b)) bytes_are

    pub digits_bad : (r y : Refusal) → u ≡ None → Err y ≡ ok_or u r → r ≡ record { reason = BadDigit; place = start } → Err y ≡ decimal_answer (read_at s from size part start)
    unfolding read_at reason_of
    digits_bad r y n g q = go (packed_number (digits_in size part) (take size (drop from s))) (sym n ∙ is_read)
      where
        same : y ≡ r
        same = let h = rw n at g in cc

        go : (o : Option ℤ) → None ≡ option_of o → Err y ≡ decimal_answer (numbered start (part / 2) o)
        go none k = rw (same, q)
        go (some z) k = absurd (let z : ◌≡◌ {A = ℕ} 0 1 = cc in let o : ⊥ = omega arith in o)

    pub digits_read : (v : ℤ) → u ≡ Some v → SFits w64 v → Ok (record { value = Some (to_z w64 (of_z w64 v)); fraction = part / 2 }) ≡ decimal_answer (read_at s from size part start)
    unfolding read_at
    digits_read v n fits = rw (to_z-of_z w64 v fits) (go (packed_number (digits_in size part) (take size (drop from s))) (sym n ∙ is_read))
      where
        go : (o : Option ℤ) → Some v ≡ option_of o → Ok (record { value = Some v; fraction = part / 2 }) ≡ decimal_answer (numbered start (part / 2) o)
        go none k = absurd (let z : ◌≡◌ {A = ℕ} 0 1 = cc in let o : ⊥ = omega arith in o)
        go (some z) k = let q : v ≡ z = cc in rw q
