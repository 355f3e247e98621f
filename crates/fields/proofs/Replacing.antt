-- The entry of a field whose length a group triplet gives.
-- Assumes nothing.
use Rattle.std.specs.Prelude.{if◌then◌else◌}
use mathlib.Core.Path.{◌≡◌, refl, sym, ap, ◌∙◌}
use Prim.Native.Nat.{ℕ, ◌+◌, ◌*◌, ◌/◌, ◌%◌, ◌<◌}
use native.Mathlib.Omega.{arith}
use mathlib.Core.Bool.{Bool, true, false, true≢false}
use mathlib.Core.Option.{some}
use borrow.Author.Tests.{lt-ltb, le-ltb}
use Rattle.fdoca.specs.FieldType.{type_of, Size, Sizes, up_to, one_of, digits_up_to, size_of, replaces, rule_of}
use Rattle.fdoca.specs.Item.{Field, with_size}
use Rattle.fdoca.specs.Check.{suits_type, good_column}
use Rattle.fdoca.specs.Unfolding.{column}
use Rattle.field_types.specs.declared.Layout.{Layout}
use Rattle.field_types.specs.declared.Layout.TheVariants.{Fixed, Short, Long, Terminated, Digits}
use Rattle.field_types.specs.Layouts.{number_of, numbered, prefix_of, form_of}
use Rattle.field_types.specs.Rows.{rule_for}
use Rattle.field_types.specs.Parameters.{layout_for, is_digits, in_digits}
use Rattle.field_types.proofs.Rows.{prefix_below_4}
use Rattle.fields.specs.Plan.{own_of, entry_of, Proper}
use Rattle.fields.specs.Parts.{entry_by}
use Rattle.fields.specs.Replaced.{Replaced}
use Rattle.fields.proofs.Parts.{numbered_back, two_bytes_lem, entry_made, made_proper}

-- id, type code, mode and bias indicator in an entry
own_part : (f : Field) → Proper f → entry_of f / 65536 % 16777216 ≡ own_of f
unfolding entry_of
own_part f h = omega (arith, h.length_fits, h.id_fits, h.code_fits, h.mode_fits, h.bias_fits)

-- the layout in an entry, and that of a type whose size is not in digits
layout_part_lem : (f : Field) → Proper f → entry_of f / 1099511627776 % 4 ≡ prefix_of (rule_of f.type).layout
unfolding entry_of
layout_part_lem f h = omega (arith, h.length_fits, h.id_fits, h.code_fits, h.mode_fits, h.bias_fits, prefix_below_4 (rule_of f.type).layout)

own_layout : (f : Field) → type_of f.code ≡ some f.type → is_digits (layout_for f.code) ≡ false → layout_for f.code ≡ numbered (prefix_of (rule_of f.type).layout)
unfolding layout_for rule_for form_of
own_layout f t n = rw t (go (rule_of f.type).sizes (rw t at n))
  where
    go : (z : Sizes) → is_digits (form_of z (rule_of f.type).layout) ≡ false → form_of z (rule_of f.type).layout ≡ numbered (prefix_of (rule_of f.type).layout)
    go (up_to m) k = refl
    go (one_of ms) k = refl
    go (digits_up_to m) k = absurd (true≢false k)

digits_alone : (l : Layout) → is_digits l ≡ true → l ≡ Digits
digits_alone Fixed h = absurd (true≢false (sym h))
digits_alone Short h = absurd (true≢false (sym h))
digits_alone Long h = absurd (true≢false (sym h))
digits_alone Terminated h = absurd (true≢false (sym h))
digits_alone Digits h = refl

-- the ways through `replaced`, a and b being the numbers that the bytes p and q are
module _ (entry p q a b : ℕ) (ea : a ≡ p) (eb : b ≡ q) where
  pub replaced_by_none : a * 256 + b ≡ 0 → Replaced entry p q entry
  replaced_by_none e = record { same = λ f h t k. k ∙ rw (← ea, ← eb, le-ltb 0 (a * 256 + b) (omega arith)) }

  module _ (own code : ℕ) (high : a < 256) (low : b < 256) (above : a * 256 + b ≡ 0 → ⊥) (eo : own ≡ entry / 65536 % 16777216) (ec : code ≡ own / 256 % 256) where
    replaced_by : (layout r : ℕ) → ((f : Field) → Proper f → type_of f.code ≡ some f.type → entry ≡ entry_of f → code ≡ f.code → layout ≡ number_of (layout_for f.code))
        → r ≡ entry_by own layout (a * 256 + b) → Replaced entry p q r
    replaced_by layout r el er = record { same = λ f h t k. go f h t k }
      where
        go : (f : Field) → Proper f → type_of f.code ≡ some f.type → entry ≡ entry_of f → r ≡ entry_of (column p q f)
        go f h t k =
            let size : Size = size_of (rule_of f.type).sizes a b in
            let (two, number) = two_bytes_lem (rule_of f.type).sizes a b high low in
            let o : own ≡ own_of f = eo ∙ rw k (own_part f h) in
            let c : code ≡ f.code = omega (arith, h.id_fits, h.code_fits) in
            er ∙ entry_made (with_size size f) own layout (a * 256 + b) t two o (el f h t k c) number
            ∙ rw (← ea, ← eb, lt-ltb 0 (a * 256 + b) (omega (arith, above)))

    pub replaced_digits : (layout r : ℕ) (d : Bool) → d ≡ in_digits code → d ≡ true → layout ≡ 4 → r ≡ entry_by own layout (a * 256 + b) → Replaced entry p q r
    unfolding in_digits
    replaced_digits layout r d ed h el er = replaced_by layout r (λ f g t k c. el ∙ sym (ap number_of (digits_alone (layout_for f.code) (rw c at (sym ed ∙ h))))) er

    pub replaced_length : (layout r : ℕ) (d : Bool) → d ≡ in_digits code → d ≡ false → layout ≡ entry / 1099511627776 % 4 → r ≡ entry_by own layout (a * 256 + b)
        → Replaced entry p q r
    unfolding in_digits
    replaced_length layout r d ed h el er =
        replaced_by layout r
        (λ f g t k c. (el ∙ rw k (layout_part_lem f g) ∙ sym (ap number_of (own_layout f t (rw c at (sym ed ∙ h))) ∙ numbered_back (rule_of f.type).layout))) er

-- a length that suits its type leaves the field proper
pub column_proper : (f : Field) (a b : ℕ) → Proper f → type_of f.code ≡ some f.type → good_column f.code a b ≡ true → Proper (column a b f)
unfolding good_column
column_proper f a b h t good = go (replaces a b) good
  where
    given : Size
    given = size_of (rule_of f.type).sizes a b

    go : (x : Bool) → (if x then suits_type (type_of f.code) a b else true) ≡ true → Proper (with_size (if x then given else f.size) f)
    go true k = made_proper (with_size given f) h.id_fits h.id_given h.code_fits h.mode_fits h.bias_fits (rw t at k)
    go false k = h
