-- The item that was found, by what the definitions note of it.
-- Assumes nothing.
use Rattle.std.specs.Prelude.{Option, None, Some, Result, Ok}
use Rattle.std.specs.Option.{MatchOption}
use mathlib.Core.Path.{◌≡◌, ap, ◌∙◌, subst}
use Prim.Native.Nat.{ℕ, ◌+◌, ◌/◌, ◌%◌}
use native.Mathlib.Omega.{arith}
use mathlib.Core.List.{List}
use mathlib.Core.Option.{some, some-injective}
use lib.ListN.{take, drop}
use Rattle.fdoca.specs.declared.State.{State}
use Rattle.fdoca.specs.declared.Refusal.{Refusal}
use Rattle.fdoca.specs.Basics.{ok}
use Rattle.fdoca.specs.FieldType.{type_of}
use Rattle.fdoca.specs.FieldType as definition
use Rattle.fdoca.specs.Item.{field_length}
use Rattle.fdoca.specs.Walk.{Note}
use Rattle.fdoca.specs.Calls.{item_at, value_of, state_of}
use Rattle.fdoca.proofs.Fields.{GoodNote, item_good}
use Rattle.field_types.specs.declared.FieldType.{FieldType}
use Rattle.field_types.specs.Types.{defined_type, maybe_defined}
use Rattle.fields.specs.Plan.{digits_part}
use Rattle.fields.proofs.Parts.{entry_length, entry_bias, entry_digits}
use Rattle.walks.specs.declared.Found.{Found}
use Rattle.lookups.specs.Answer.{ItemAs, state_found}

module _ (d x : List ℕ) (i : ℕ) (f : Found) where
  pub record TheItem : Type 0 where
    pub note : Note
    pub is_item : item_at d x i ≡ ok note
    pub start_is : f.start ≡ note.start
    pub null_is : f.null ≡ note.is_null
    pub code_is : f.entry / 16777216 % 256 ≡ note.field.code
    pub value_is : take f.value (drop (f.start + f.lead) x) ≡ value_of x note
    pub length_is : f.value ≡ note.value
    pub size_is : f.entry % 65536 ≡ field_length note.field
    pub bias_is : f.entry / 549755813888 % 2 ≡ note.field.bias
    pub digits_are : f.entry / 4398046511104 % 64 ≡ digits_part note.field.size
    pub good : GoodNote note

  pub the_item : ItemAs (item_at d x i) x f → TheItem
  the_item w =
      record {
        note = w.note;
        is_item = w.is_item;
        start_is = rw w.found;
        null_is = rw w.found;
        code_is = ap (λ (s : State). s.code) w.state;
        value_is = rw w.found;
        length_is = rw w.found;
        size_is = rw w.entry_is.entry (entry_length w.note.field w.entry_is.proper);
        bias_is = rw w.entry_is.entry (entry_bias w.note.field w.entry_is.proper);
        digits_are = rw w.entry_is.entry (entry_digits w.note.field w.entry_is.proper);
        good = item_good d x i w.note w.is_item;
      }

  -- the type of its type code is that of its field
  pub type_known : (w : ItemAs (item_at d x i) x f) (o : Option FieldType) → maybe_defined o ≡ type_of (f.entry / 16777216 % 256) → maybe_defined o ≡ some (the_item w).note.field.type
  type_known w o e = let t = the_item w in e ∙ ap type_of t.code_is ∙ t.good.field_good.typed

  -- what holds of what a call gave for the type of its type code holds for the field's type
  pub by_type : (w : ItemAs (item_at d x i) x f) (o : Option FieldType) (P : Type 0) (Q : FieldType → Type 0) (R : definition.FieldType → Type 0)
      → MatchOption o P Q → maybe_defined o ≡ type_of (f.entry / 16777216 % 256) → ((T : FieldType) → Q T → R (defined_type T)) → R (the_item w).note.field.type
  by_type w o P Q R m e g = go o (type_known w o e) m
    where
      go : (o : Option FieldType) → maybe_defined o ≡ some (the_item w).note.field.type → MatchOption o P Q → R (the_item w).note.field.type
      go None k m = absurd (let z : ◌≡◌ {A = ℕ} 0 1 = cc in let o : ⊥ = omega arith in o)
      go (Some T) k m = subst R (some-injective (defined_type T) (the_item w).note.field.type k) (g T m)

  -- its state
  pub state_is : ItemAs (item_at d x i) x f → ◌≡◌ {A = Result State Refusal} (Ok (state_found f)) (state_of (item_at d x i))
  state_is w = rw (w.is_item, w.state)
