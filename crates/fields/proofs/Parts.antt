-- A size's parts of a plan's entry, the entry that they make, and the sizes that an entry holds.
-- Assumes nothing.
use mathlib.Core.Path.{◌≡◌, refl, sym, ap, ◌∙◌}
use Prim.Native.Nat.{ℕ, ◌+◌, ◌*◌, ◌/◌, ◌%◌, ◌≤◌, ◌<◌}
use native.Mathlib.Omega.{arith}
use mathlib.Core.Bool.{true, false, ◌&&◌, true≢false}
use mathlib.Core.Option.{some}
use lib.Dec.{leb, eqb, lit≤, lit<}
use borrow.Author.Tests.{leb-true, eq-eqb, ne_eqb}
use Rattle.fdoca.specs.Packed.{all_below}
use Rattle.fdoca.specs.FieldType.{FieldType, fixed_bytes, variable_bytes, terminated_bytes, short_bytes, integer, reversed_integer, packed_decimal, hex_float, reversed_float, binary_float, type_of, Layout, fixed, counted, terminated, signed_two, unsigned_one, Size, bytes, digits, in_bytes, Sizes, up_to, one_of, digits_up_to, size_of, allows, rule_of}
use Rattle.fdoca.specs.Item.{Field, field_length}
use Rattle.fdoca.proofs.Tests.{and_left, and_right}
use Rattle.fdoca.proofs.TypeRows.{elem_in}
use Rattle.fdoca.proofs.ValueRows.{one_below}
use Rattle.field_types.specs.Layouts.{number_of, numbered, prefix_of, form_of}
use Rattle.field_types.specs.Rows.{rule_for}
use Rattle.field_types.specs.Parameters.{layout_for, size_number}
use Rattle.field_types.proofs.Rows.{prefix_below_4}
use Rattle.fields.specs.Plan.{digits_part, own_of, entry_of, Proper}
use Rattle.fields.specs.Parts.{length_part, layout_part, entry_by}

-- what a size adds to an entry, by whether it is in digits, n being their layout's number
module _ (layout n size : ℕ) (d : n ≡ 4) where
  pub digits_length : size < 65536 → layout ≡ n → (size / 256 / 2 + 1 ≡ length_part layout size) × (size / 256 / 2 + 1 < 65536)
  unfolding length_part
  digits_length l e = (simp (eq-eqb layout 4 (e ∙ d)), omega arith)

  pub other_length : size < 65536 → (layout ≡ n → ⊥) → (size ≡ length_part layout size) × (size < 65536)
  unfolding length_part
  other_length l h = (simp (ne_eqb layout 4 (λ e. h (e ∙ sym d))), l)

  pub digits_layout : layout ≡ n → (4 * (size / 256 % 2 + 2 * (size % 256)) ≡ layout_part layout size) × (4 * (size / 256 % 2 + 2 * (size % 256)) < 4096)
  unfolding layout_part
  digits_layout e = (simp (eq-eqb layout 4 (e ∙ d)), omega arith)

  pub other_layout : (r : ℕ) → (layout ≡ n → ⊥) → r ≡ layout → layout < 256 → (r ≡ layout_part layout size) × (r < 4096)
  unfolding layout_part
  other_layout r h e l = (simp (ne_eqb layout 4 (λ e. h (e ∙ sym d))) e, omega (arith, e))

-- the layout of a number below 4 has that number
pub numbered_back : (l : Layout) → number_of (numbered (prefix_of l)) ≡ prefix_of l
unfolding numbered prefix_of
numbered_back fixed = refl
numbered_back (counted signed_two) = refl
numbered_back (counted unsigned_one) = refl
numbered_back terminated = refl

-- the sizes of a type are numbers of two bytes; where they are in digits, there are few of them, and the layout is fixed
abbrev Small : Sizes → Layout → Type 0
Small (up_to n) l = n < 65536
Small (one_of ns) l = all_below 65536 ns ≡ true
Small (digits_up_to n) l = (n ≤ 18) × (l ≡ fixed)

small_sizes : (T : FieldType) → Small (rule_of T).sizes (rule_of T).layout
unfolding rule_of
small_sizes fixed_bytes = lit< tt
small_sizes variable_bytes = lit< tt
small_sizes terminated_bytes = lit< tt
small_sizes short_bytes = lit< tt
small_sizes integer = refl
small_sizes reversed_integer = refl
small_sizes packed_decimal = (lit≤ tt, refl)
small_sizes hex_float = refl
small_sizes reversed_float = refl
small_sizes binary_float = refl

-- a size is of the kind that a type has, and its number is one of two bytes
abbrev pub InTwo : Sizes → Size → Type 0
InTwo (up_to n) (bytes F) = F < 65536
InTwo (one_of ns) (bytes F) = F < 65536
InTwo (digits_up_to n) (digits p q) = (p < 256) × (q < 256)
InTwo (up_to n) (digits p q) = ⊥
InTwo (one_of ns) (digits p q) = ⊥
InTwo (digits_up_to n) (bytes F) = ⊥

pub two_bytes_lem : (z : Sizes) (a b : ℕ) → a < 256 → b < 256 → (InTwo z (size_of z a b)) × (a * 256 + b ≡ size_number (size_of z a b))
two_bytes_lem (up_to n) a b h l = (omega arith, refl)
two_bytes_lem (one_of ns) a b h l = (omega arith, refl)
two_bytes_lem (digits_up_to n) a b h l = ((h, l), refl)

-- a size that is allowed is small enough for an entry
pub record Bounded (z : Sizes) (size : Size) : Type 0 where
  pub in_two : InTwo z size
  pub number_small : size_number size < 65536
  pub length_small : in_bytes size < 65536
  pub digits_small : digits_part size < 64

of_bytes_bounded : (z : Sizes) (F : ℕ) → InTwo z (bytes F) → F < 65536 → Bounded z (bytes F)
unfolding digits_part
of_bytes_bounded z F two l = record { in_two = two; number_small = l; length_small = l; digits_small = lit< tt }

bounded_by : (z : Sizes) (l : Layout) (size : Size) → Small z l → allows z size ≡ true → Bounded z size
unfolding digits_part
bounded_by (up_to n) l (bytes F) k h = let m : F < 65536 = omega (arith, leb-true F n h) in of_bytes_bounded (up_to n) F m m
bounded_by (one_of ns) l (bytes F) k h = let m : F < 65536 = one_below F 65536 ns k (elem_in F ns h) in of_bytes_bounded (one_of ns) F m m
bounded_by (digits_up_to n) l (digits p q) (m, _) h =
    let low : (leb 1 p && leb p n) ≡ true = and_left (leb 1 p && leb p n) (leb q p) h in
    let a : p ≤ n = leb-true p n (and_right (leb 1 p) (leb p n) low) in
    let b : q ≤ p = leb-true q p (and_right (leb 1 p && leb p n) (leb q p) h) in
    record { in_two = (omega arith, omega arith); number_small = omega arith; length_small = omega arith; digits_small = omega arith }
bounded_by (up_to n) l (digits p q) k h = absurd (true≢false (sym h))
bounded_by (one_of ns) l (digits p q) k h = absurd (true≢false (sym h))
bounded_by (digits_up_to n) l (bytes F) k h = absurd (true≢false (sym h))

pub bounded : (T : FieldType) (size : Size) → allows (rule_of T).sizes size ≡ true → Bounded (rule_of T).sizes size
bounded T size h = bounded_by (rule_of T).sizes (rule_of T).layout size (small_sizes T) h

-- a size's parts of the entry
record PartsOf (z : Sizes) (l : Layout) (size : Size) : Type 0 where
  length_is : length_part (number_of (form_of z l)) (size_number size) ≡ in_bytes size
  layout_is : layout_part (number_of (form_of z l)) (size_number size) ≡ prefix_of l + 4 * digits_part size

of_bytes : (z : Sizes) (l : Layout) (F : ℕ) → form_of z l ≡ numbered (prefix_of l) → PartsOf z l (bytes F)
unfolding length_part layout_part digits_part
of_bytes z l F e =
    let n : eqb (prefix_of l) 4 ≡ false = ne_eqb (prefix_of l) 4 (λ q. omega (arith, prefix_below_4 l)) in
    record { length_is = rw (e, numbered_back l, n); layout_is = rw (e, numbered_back l, n) (omega arith) }

parts_of : (z : Sizes) (l : Layout) (size : Size) → Small z l → InTwo z size → PartsOf z l size
unfolding form_of prefix_of digits_part length_part layout_part
parts_of (up_to n) l (bytes F) k h = of_bytes (up_to n) l F refl
parts_of (up_to n) l (digits p q) k h = elim h [ ]
parts_of (one_of ns) l (digits p q) k h = elim h [ ]
parts_of (digits_up_to n) l (bytes F) k h = elim h [ ]
parts_of (one_of ns) l (bytes F) k h = of_bytes (one_of ns) l F refl
parts_of (digits_up_to n) l (digits p q) (_, e) (a, b) =
    let x : (p * 256 + q) / 256 ≡ p = omega arith in
    let y : (p * 256 + q) % 256 ≡ q = omega arith in
    record { length_is = rw x; layout_is = rw (x, y, e) (omega arith) }

-- the entry of a field, from its numbers
pub entry_made : (f : Field) (own layout size : ℕ) → type_of f.code ≡ some f.type → InTwo (rule_of f.type).sizes f.size
    → own ≡ own_of f → layout ≡ number_of (layout_for f.code) → size ≡ size_number f.size → entry_by own layout size ≡ entry_of f
unfolding entry_by entry_of layout_for rule_for
entry_made f own layout size q two eo el es =
    let k : layout ≡ number_of (form_of (rule_of f.type).sizes (rule_of f.type).layout) = el ∙ ap (λ o. number_of (form_of (rule_for o).sizes (rule_for o).layout)) q in
    let p : PartsOf (rule_of f.type).sizes (rule_of f.type).layout f.size =
    parts_of (rule_of f.type).sizes (rule_of f.type).layout f.size (small_sizes f.type) two in
    rw (k, es, p.length_is, p.layout_is, eo)

-- a field is proper whose size is allowed, with other numbers of so many bits
pub made_proper : (f : Field) → f.id < 256 → 0 < f.id → f.code < 256 → f.mode < 128 → f.bias < 2 → allows (rule_of f.type).sizes f.size ≡ true → Proper f
made_proper f i g c m x h =
    let b : Bounded (rule_of f.type).sizes f.size = bounded f.type f.size h in
    record {
      length_fits = b.length_small;
      id_fits = i;
      id_given = g;
      code_fits = c;
      mode_fits = m;
      bias_fits = x;
      digits_fit = b.digits_small;
    }

-- an entry is not 0
pub entry_given : (f : Field) → Proper f → 0 < entry_of f
unfolding entry_of
entry_given f h = omega (arith, h.id_given)

-- and has its field's length, type code, bias indicator and digits
module _ (f : Field) (h : Proper f) where
  pub entry_length : entry_of f % 65536 ≡ field_length f
  unfolding entry_of
  entry_length = omega (arith, h.length_fits)

  pub entry_code : entry_of f / 16777216 % 256 ≡ f.code
  unfolding entry_of
  entry_code = omega (arith, h.length_fits, h.id_fits, h.code_fits)

  pub entry_bias : entry_of f / 549755813888 % 2 ≡ f.bias
  unfolding entry_of
  entry_bias = omega (arith, h.length_fits, h.id_fits, h.code_fits, h.mode_fits, h.bias_fits)

  pub entry_digits : entry_of f / 4398046511104 % 64 ≡ digits_part f.size
  unfolding entry_of
  entry_digits = omega (arith, h.length_fits, h.id_fits, h.code_fits, h.mode_fits, h.bias_fits, prefix_below_4 (rule_of f.type).layout, h.digits_fit)
