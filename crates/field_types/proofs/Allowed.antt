-- The sizes that a type allows, the size that holds, and the ways through `shape_of` and `good_length`.
-- Assumes nothing.
use Rattle.std.specs.Prelude.{if◌then◌else◌, unwrap_or, Option, None, Some}
use mathlib.Core.Logic.{◌⊎◌, inl, inr}
use mathlib.Core.Path.{◌≡◌, refl, sym, ◌∙◌, ap}
use Prim.Native.Nat.{ℕ, ◌+◌, ◌*◌, ◌/◌, ◌%◌, ◌<◌, ◌≤◌}
use native.Mathlib.Omega.{arith}
use mathlib.Core.Bool.{Bool, true, false, ◌&&◌, and-false}
use mathlib.Core.List.{List, [], ◌∷◌}
use mathlib.Core.Option.{none, some}
use mathlib.Core.Option as defined_option
use lib.Dec.{leb, eqb}
use lib.ListN.{length, get_or}
use borrow.Author.Tests.{lt-ltb, le-ltb, le-leb, lt-leb, eq-eqb, ne_eqb}
use mir.Val.{bool_byte}
use Rattle.fdoca.specs.Basics.{big}
use Rattle.fdoca.specs.FieldType.{fixed_bytes, variable_bytes, terminated_bytes, short_bytes, integer, reversed_integer, packed_decimal, hex_float, reversed_float, binary_float, type_of, Size, bytes, digits, up_to, one_of, digits_up_to, size_of, allows, rule_of, length_that_holds, suits}
use Rattle.fdoca.specs.FieldType as definition
use Rattle.fdoca.specs.Triplet.{bias_of, mode_of, size_in}
use Rattle.fdoca.specs.Check.{most, good_parameters, good_type, suits_type, good_column}
use Rattle.fdoca.proofs.Account.{big_two}
use Rattle.field_types.specs.declared.FieldType.{FieldType}
use Rattle.field_types.specs.declared.Sizes.{Sizes}
use Rattle.field_types.specs.declared.Sizes.TheVariants.{UpTo, Two, Three, DigitsUpTo}
use Rattle.field_types.specs.declared.Rule.{Rule}
use Rattle.field_types.specs.declared.Shape.{Shape}
use Rattle.field_types.specs.Types.{defined_type, maybe_defined}
use Rattle.field_types.specs.Rows.{sizes_of, given, IsRule, rule_for}
use Rattle.field_types.specs.Parameters.{unused_zero, allows_number, rule_allows, good_eight, layout_for, size_number, shape_of, shape_if}
use Rattle.numbers.proofs.Pairs.{two_at}

whole : (F : ℕ) → F / 256 * 256 + F % 256 ≡ F
whole F = omega arith

or_if : (b : Bool) → b ≡ (if b then true else false)
or_if true = refl
or_if false = refl

-- the ways through `Sizes::allow`
module _ (z : Sizes) (F : ℕ) where
  pub by_top : (n : ℕ) → z ≡ UpTo n → leb F n ≡ allows_number (sizes_of z) F
  unfolding sizes_of allows_number
  by_top n e = rw (e, whole F)

  pub by_two : (a b : ℕ) → z ≡ Two a b → (if eqb F a then true else eqb F b) ≡ allows_number (sizes_of z) F
  unfolding sizes_of allows_number
  by_two a b e = rw (e, whole F, ← or_if (eqb F b)) refl

  pub by_three : (a b c : ℕ) → z ≡ Three a b c → (if eqb F a then true else if eqb F b then true else eqb F c) ≡ allows_number (sizes_of z) F
  unfolding sizes_of allows_number
  by_three a b c e = rw (e, whole F, ← or_if (eqb F c)) refl

  pub by_digits : (n : ℕ) (r : Bool) → z ≡ DigitsUpTo n → r ≡ allows (digits_up_to n) (digits (F / 256) (F % 256)) → r ≡ allows_number (sizes_of z) F
  unfolding sizes_of allows_number
  by_digits n r e h = rw e h

-- the default in place of a length
pub default_is : (o : Option ℕ) (F r : ℕ) → (F ≡ 4 ⊎ (F ≡ 8 ⊎ F ≡ 16) → ⊥) → r ≡ unwrap_or o F → r ≡ length_that_holds (given o) F
unfolding given
default_is None F r h e = e
default_is (Some n) F r h e = rw (ne_eqb F 4 (λ q. h (inl q)), ne_eqb F 8 (λ q. h (inr (inl q))), ne_eqb F 16 (λ q. h (inr (inr q)))) e

-- a mode or a bias indicator against the number that is its largest
tested : (b : Bool) (x n : ℕ) → n ≡ bool_byte b → leb x n ≡ leb x (most b)
tested true x n e = rw e
tested false x n e = rw e

-- the ways through `Rule::allows`
module _ (r : Rule) (bias mode size n : ℕ) (e : n ≡ bool_byte r.has_bias) where
  pub bias_over : n < bias → false ≡ rule_allows r bias mode size
  unfolding rule_allows
  bias_over h = rw (← tested r.has_bias bias n e, lt-leb bias n h)

  module _ (h : bias ≤ n) (m : ℕ) (f : m ≡ bool_byte r.has_mode) where
    pub mode_over : (v : Bool) → v ≡ leb mode m → v ≡ false → v ≡ rule_allows r bias mode size
    unfolding rule_allows
    mode_over v k x = rw (← tested r.has_bias bias n e, le-leb bias n h, ← tested r.has_mode mode m f, ← k, x)

    pub size_told : (v g : Bool) → v ≡ leb mode m → v ≡ true → g ≡ allows_number (sizes_of r.sizes) size → g ≡ rule_allows r bias mode size
    unfolding rule_allows
    size_told v g k x a = rw (← tested r.has_bias bias n e, le-leb bias n h, ← tested r.has_mode mode m f, ← k, x) a

-- the rule of a type is that by which its codes are judged
is_rule : (o : defined_option.Option definition.FieldType) (T : FieldType) (r : Rule) → some (defined_type T) ≡ o → IsRule r (rule_of (defined_type T)) → IsRule r (rule_for o)
unfolding rule_for
is_rule o T r e h = rw (← e) h

-- a type whose size is in digits has no default
abbrev NoDefault : definition.Sizes → defined_option.Option ℕ → Type 0
NoDefault (up_to n) o = Unit {0}
NoDefault (one_of ns) o = Unit {0}
NoDefault (digits_up_to n) o = o ≡ none

no_default : (o : defined_option.Option definition.FieldType) → NoDefault (rule_for o).sizes (rule_for o).default
unfolding rule_for rule_of
no_default none = tt
no_default (some fixed_bytes) = tt
no_default (some variable_bytes) = tt
no_default (some terminated_bytes) = tt
no_default (some short_bytes) = tt
no_default (some integer) = tt
no_default (some reversed_integer) = tt
no_default (some packed_decimal) = refl
no_default (some hex_float) = tt
no_default (some reversed_float) = tt
no_default (some binary_float) = tt

-- the size that holds, by its two bytes as one number
module _ (r : definition.Rule) (ps : List ℕ) (n size : ℕ) (low : get_or ps 7 0 < 256) (e : n ≡ big (get_or ps 6 0 ∷ get_or ps 7 0 ∷ [])) (es : size ≡ length_that_holds r.default n) where
  abbrev Held : definition.Sizes → Size → Type 0
  Held z s = (size ≡ size_number s) × (size_of z (size / 256) (size % 256) ≡ s)

  abbrev a : ℕ
  a = get_or ps 6 0

  abbrev b : ℕ
  b = get_or ps 7 0

  is_two_lem : n ≡ a * 256 + b
  is_two_lem = e ∙ big_two a b

  held : NoDefault r.sizes r.default → Held r.sizes (size_in r ps)
  held h = go r.sizes r.default h (rw is_two_lem at es)
    where
      go : (z : definition.Sizes) (o : defined_option.Option ℕ) → NoDefault z o → size ≡ length_that_holds o (a * 256 + b)
          → Held z (definition.size_that_holds (record { layout = r.layout; sizes = z; default = o; has_mode = r.has_mode; has_bias = r.has_bias }) (size_of z a b))
      go (up_to n) o k e = (e, ap bytes (whole size ∙ e))
      go (one_of ns) o k e = (e, ap bytes (whole size ∙ e))
      go (digits_up_to n) o k e =
          let f : size ≡ a * 256 + b = rw k at e in
          let x : size / 256 ≡ a = omega arith in
          let y : size % 256 ≡ b = omega arith in
          (f, rw (x, y))

-- what a rule of the definitions asks of the parameters
abbrev allowed : definition.Rule → (bias mode : ℕ) → Size → Bool
allowed r bias mode size = leb bias (most r.has_bias) && (leb mode (most r.has_mode) && allows r.sizes size)

-- the test of all eight bytes, with the unused ones first
unused_first : (a b c d e f : Bool) → a && b && c && d && e && f ≡ (a && (b && d)) && (c && (e && f))
unused_first true true true true e f = refl
unused_first true true true false e f = refl
unused_first true true false true e f = refl
unused_first true true false false e f = refl
unused_first true false c d e f = refl
unused_first false b c d e f = refl

good_type_lem : (o : defined_option.Option definition.FieldType) (ps : List ℕ) → good_type o ps ≡ good_parameters (rule_for o) ps
unfolding good_parameters rule_for
good_type_lem none ps = simp and-false
good_type_lem (some T) ps = refl

by_parts : (o : defined_option.Option definition.FieldType) (ps : List ℕ) → good_type o ps ≡ unused_zero ps && allowed (rule_for o) (bias_of ps) (mode_of ps) (size_in (rule_for o) ps)
unfolding good_parameters unused_zero
by_parts o ps =
    good_type_lem o ps
    ∙ unused_first (eqb (get_or ps 0 0) 0) (eqb (get_or ps 1 0) 0) (leb (bias_of ps) (most (rule_for o).has_bias)) (eqb (get_or ps 4 0) 0)
    (leb (mode_of ps) (most (rule_for o).has_mode)) (allows (rule_for o).sizes (size_in (rule_for o) ps))

-- the bias indicator of eight bytes
bias_read : (ps : List ℕ) → length ps ≡ 8 → bias_of ps ≡ big (get_or ps 2 0 ∷ get_or ps 3 0 ∷ [])
bias_read ps h = ap big (two_at ps 2 (omega arith))

-- for callers: the test of eight bytes is the definitions'
pub good_eight_lem : (code : ℕ) (ps : List ℕ) → length ps ≡ 8 → good_eight code ps ≡ good_type (type_of code) ps
unfolding good_eight
good_eight_lem code ps h = simp (eq-eqb _ _ h)

-- for callers: there is a shape exactly where all is good, and it is that of the code and the parameters
module _ (code : ℕ) (ps : List ℕ) where
  pub shape_none : (good : Bool) → None ≡ shape_if good code ps → good ≡ false
  unfolding shape_if
  shape_none true e = cc
  shape_none false e = refl

  pub shape_some : (good : Bool) (x : Shape) → Some x ≡ shape_if good code ps → good ≡ true
  unfolding shape_if
  shape_some true x e = refl
  shape_some false x e = cc

  pub shape_is : (good : Bool) (x : Shape) → Some x ≡ shape_if good code ps → x ≡ shape_of code ps
  unfolding shape_if
  shape_is true x e = cc
  shape_is false x e = cc

  pub shape_not : (good : Bool) → good ≡ false → None ≡ shape_if good code ps
  unfolding shape_if
  shape_not good h = rw h

-- the ways through `shape_of`
module _ (code : ℕ) (ps : List ℕ) where
  pub not_eight : (length ps ≡ 8 → ⊥) → good_eight code ps ≡ false
  unfolding good_eight
  not_eight h = simp (ne_eqb _ _ h)

  pub unused_set : (z : Bool) → z ≡ unused_zero ps → z ≡ false → good_eight code ps ≡ false
  unfolding good_eight
  unused_set z e f = simp (by_parts, ← e, f, and-false)

  pub without_type : maybe_defined None ≡ type_of code → good_eight code ps ≡ false
  unfolding good_eight
  without_type h = rw (← h) (simp and-false)

  module _ (T : FieldType) (r : Rule) (t : maybe_defined (Some T) ≡ type_of code) (i : IsRule r (rule_of (defined_type T))) (n size : ℕ) (e : n ≡ big (get_or ps 6 0 ∷ get_or ps 7 0 ∷ [])) (low : get_or ps 7 0 < 256) (es : size ≡ length_that_holds (given r.default) n) where
    abbrev rule : definition.Rule
    rule = rule_for (type_of code)

    is : IsRule r rule
    is = is_rule (type_of code) T r t i

    size_is : (size ≡ size_number (size_in rule ps)) × (size_of rule.sizes (size / 256) (size % 256) ≡ size_in rule ps)
    size_is = held rule ps n size low e (rw is.default at es) (no_default (type_of code))

    pub told_by_rule : (z : Bool) (bias : ℕ) (g answer : Bool) → length ps ≡ 8 → z ≡ unused_zero ps → z ≡ true → bias ≡ big (get_or ps 2 0 ∷ get_or ps 3 0 ∷ [])
        → g ≡ rule_allows r bias (get_or ps 5 0) size → g ≡ answer → good_eight code ps ≡ answer
    unfolding rule_allows allows_number
    told_by_rule z bias g answer h u t i d x =
        let asked : g ≡ allowed rule bias (get_or ps 5 0) (size_in rule ps) = d ∙ rw (is.has_bias, is.has_mode, is.sizes, size_is.1) refl in
        good_eight_lem code ps h ∙ by_parts (type_of code) ps ∙ rw (← u, t, bias_read ps h, ← i) (sym asked ∙ x)

    pub by_shape : (good : Bool) → good ≡ true → Some (record { layout = r.layout; size = size }) ≡ shape_if good code ps
    unfolding shape_if shape_of layout_for
    by_shape good h = rw (h, is.layout, ← size_is.0) refl

-- the ways through `good_length`, n being the number that the bytes a and b are
module _ (code a b n : ℕ) (e : n ≡ big (a ∷ b ∷ [])) where
  is_two : n ≡ a * 256 + b
  is_two = e ∙ big_two a b

  pub replaces_nothing : n ≡ 0 → true ≡ good_column code a b
  unfolding good_column
  replaces_nothing h = rw (← is_two, le-ltb 0 n (omega arith))

  module _ (above : n ≡ 0 → ⊥) where
    judged : suits_type (type_of code) a b ≡ good_column code a b
    unfolding good_column
    judged = rw (← is_two, lt-ltb 0 n (omega (arith, above)))

    pub suits_none : maybe_defined None ≡ type_of code → false ≡ good_column code a b
    suits_none h = (rw (← h) refl) ∙ judged

    pub suits_rule : (T : FieldType) (r : Rule) (g : Bool) → maybe_defined (Some T) ≡ type_of code → IsRule r (rule_of (defined_type T)) → b < 256
        → g ≡ allows_number (sizes_of r.sizes) n → g ≡ good_column code a b
    unfolding allows_number
    suits_rule T r g h k low l = l ∙ rw (k.sizes, x, y) told ∙ judged
      where
        x : n / 256 ≡ a
        x = omega (arith, is_two)

        y : n % 256 ≡ b
        y = omega (arith, is_two)

        told : suits (rule_of (defined_type T)) a b ≡ suits_type (type_of code) a b
        told = rw (← h) refl
