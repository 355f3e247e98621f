-- What the table of rules allows is what document 01's table of field types allows: type code, bias indicator, mode and size. The size that holds
-- is the one that Q-2 says.
-- Assumes nothing.
use Rattle.std.specs.Prelude.{if◌then◌else◌}
use mathlib.Core.Path.{◌≡◌, refl, sym, ap, ◌∙◌}
use Prim.Native.Nat.{ℕ, ◌+◌, ◌-◌, ◌≤◌, ◌<◌}
use native.Mathlib.Omega.{arith}
use native.Mathlib.Nat.{zero-add}
use mathlib.Core.Bool.{Bool, true, false, ◌&&◌, true≢false}
use mathlib.Core.List.{List, [], ◌∷◌}
use mathlib.Core.Option.{Option, none, some, none-ne-some, some-injective}
use lib.Dec.{leb, ltb, eqb}
use lib.ListN.{get_or}
use borrow.Author.Tests.{ltb-true, leb-true, le-leb, lt-leb, eqb-true, eq-eqb}
use Rattle.fdoca.specs.Basics.{elem, lookup}
use Rattle.fdoca.specs.FieldType.{FieldType, fixed_bytes, variable_bytes, terminated_bytes, short_bytes, integer, reversed_integer, packed_decimal, hex_float, reversed_float, binary_float, types, plain, type_of, Size, bytes, digits, one_of, size_of, Rule, allows, rule_of, length_that_holds, size_that_holds}
use Rattle.fdoca.specs.Triplet.{bias_of, mode_of, size_in}
use Rattle.fdoca.specs.Check.{most, suits_type, good_parameters, good_type}
use Rattle.fdoca.specs.Reasons as R
use Rattle.fdoca.specs.Reasons.{OneOf, here, there, F, Suits, Allowed, fixed, variable, null_terminated, short, whole_number_row, reversed_whole_number, packed, hexadecimal_float, reversed_float_row, float, Means, hexadecimal_default, reversed_default, float_default, nullable_default, Hold, as_given, by_default}
use Rattle.fdoca.proofs.Table.{looked_up}
use Rattle.fdoca.proofs.Tests.{and_left, and_right}

-- a number that is among others, by the test and by the relation
pub elem_in : (n : ℕ) (ns : List ℕ) → elem n ns ≡ true → OneOf n ns
elem_in n [] h = absurd (true≢false (sym h))
elem_in n (m ∷ ns) h = go (eqb n m) refl h (λ k. elem_in n ns k)
  where
    go : (b : Bool) → eqb n m ≡ b → (if b then true else elem n ns) ≡ true → (elem n ns ≡ true → OneOf n ns) → OneOf n (m ∷ ns)
    go true e k ih = here (eqb-true n m e)
    go false e k ih = there (ih k)

pub in_elem : {n : ℕ} {ns : List ℕ} → OneOf n ns → elem n ns ≡ true
in_elem (here {n = n} {m = m} e) = rw (eq-eqb n m e)
in_elem (there {n = n} {m = m} {ns = ns} h) = go (eqb n m) (in_elem h)
  where
    go : (b : Bool) → elem n ns ≡ true → (if b then true else elem n ns) ≡ true
    go true k = refl
    go false k = k

pub elem_out : (n : ℕ) (ns : List ℕ) → elem n ns ≡ false → OneOf n ns → ⊥
elem_out n ns h k = true≢false (sym (in_elem k) ∙ h)

-- the plain type code of a type
abbrev pub plain_code : FieldType → ℕ
plain_code fixed_bytes = 0x01
plain_code variable_bytes = 0x02
plain_code terminated_bytes = 0x03
plain_code short_bytes = 0x07
plain_code integer = 0x23
plain_code reversed_integer = 0x24
plain_code packed_decimal = 0x30
plain_code hex_float = 0x40
plain_code reversed_float = 0x47
plain_code binary_float = 0x48

-- the table of types has each type at its code, which is below 128
pub plain_code_lem : (c : ℕ) (T : FieldType) → lookup c types ≡ some T → (c ≡ plain_code T) × (c < 128)
plain_code_lem c T h =
    let f = looked_up (λ c T. eqb c (plain_code T) && ltb c 128) c types T refl h in
    (eqb-true c (plain_code T) (and_left (eqb c (plain_code T)) (ltb c 128) f), ltb-true c 128 (and_right (eqb c (plain_code T)) (ltb c 128) f))

-- the plain code of a code, by the form that it is
pub plain_low : (c : ℕ) → c < 128 → c ≡ plain c
plain_low c h = rw (lt-leb 128 c h)

pub plain_high : (c : ℕ) → 128 ≤ c → c - 128 ≡ plain c
plain_high c h = rw (le-leb 128 c h)

-- the plain code of a type's code is the type's
pub type_plain : (c : ℕ) (T : FieldType) → type_of c ≡ some T → plain c ≡ plain_code T
unfolding type_of
type_plain c T h = (plain_code_lem (plain c) T h).0

-- A code stands for a type exactly where it is the type's plain code or that plus X'80'.
pub data Coded (T : FieldType) : ℕ → Type 0 where
  as_plain : {c : ℕ} → c ≡ plain_code T → c < 128 → Coded T c
  as_nullable : {b c : ℕ} → b ≡ plain_code T → b < 128 → c ≡ b + 128 → Coded T c

pub code_of_type : (c : ℕ) (T : FieldType) → type_of c ≡ some T → Coded T c
unfolding type_of
code_of_type c T = go (leb 128 c) refl
  where
    go : (b : Bool) → leb 128 c ≡ b → lookup (if b then c - 128 else c) types ≡ some T → Coded T c
    go true t h = let q = plain_code_lem (c - 128) T h in as_nullable {c = c} q.0 q.1 (omega (arith, leb-true 128 c t))
    go false t h = let q = plain_code_lem c T h in as_plain q.0 q.1

with_indicator : {T : FieldType} {c : ℕ} → c < 128 → Coded T c → Coded T (c + 128)
with_indicator k (as_plain e l) = as_nullable e l refl
with_indicator k (as_nullable e l q) = absurd (let z : ⊥ = omega arith in z)

pub type_of_plain : (T : FieldType) → lookup (plain_code T) types ≡ some T
type_of_plain fixed_bytes = refl
type_of_plain variable_bytes = refl
type_of_plain terminated_bytes = refl
type_of_plain short_bytes = refl
type_of_plain integer = refl
type_of_plain reversed_integer = refl
type_of_plain packed_decimal = refl
type_of_plain hex_float = refl
type_of_plain reversed_float = refl
type_of_plain binary_float = refl

-- no two types have one plain code
pub same_plain : (T U : FieldType) → plain_code T ≡ plain_code U → T ≡ U
same_plain T U e = some-injective T U (sym (type_of_plain T) ∙ ap (λ c. lookup c types) e ∙ type_of_plain U)

pub type_of_code : {c : ℕ} {T : FieldType} → Coded T c → type_of c ≡ some T
unfolding type_of
type_of_code {c} {T} (as_plain e l) = rw (lt-leb 128 c l, e) (type_of_plain T)
type_of_code {c} {T} (as_nullable {b = b} e l q) =
    let k : c - 128 ≡ b = omega arith in
    rw (le-leb 128 c (omega arith), k, e) (type_of_plain T)

same_type : {c : ℕ} {T U : FieldType} → Coded T c → type_of c ≡ some U → T ≡ U
same_type {c} {T} {U} k e = some-injective T U (sym (type_of_code k) ∙ e)

-- the parts of good parameters
pub record Good (r : Rule) (ps : List ℕ) : Type 0 where
  pub zeros : (get_or ps 0 0 ≡ 0) × (get_or ps 1 0 ≡ 0) × (get_or ps 4 0 ≡ 0)
  pub bias : bias_of ps ≤ most r.has_bias
  pub mode : mode_of ps ≤ most r.has_mode
  pub size_allowed_lem : allows r.sizes (size_in r ps) ≡ true

module _ (r : Rule) (ps : List ℕ) where
  pub good_parts : good_parameters r ps ≡ true → Good r ps
  unfolding good_parameters
  good_parts h =
      let z₀ = eqb (get_or ps 0 0) 0 in
      let z₁ = eqb (get_or ps 1 0) 0 in
      let b = leb (bias_of ps) (most r.has_bias) in
      let z₄ = eqb (get_or ps 4 0) 0 in
      let m = leb (mode_of ps) (most r.has_mode) in
      let l = allows r.sizes (size_in r ps) in
      let h₅ : (z₀ && z₁ && b && z₄ && m) ≡ true = and_left (z₀ && z₁ && b && z₄ && m) l h in
      let h₄ : (z₀ && z₁ && b && z₄) ≡ true = and_left (z₀ && z₁ && b && z₄) m h₅ in
      let h₃ : (z₀ && z₁ && b) ≡ true = and_left (z₀ && z₁ && b) z₄ h₄ in
      let h₂ : (z₀ && z₁) ≡ true = and_left (z₀ && z₁) b h₃ in
      record {
        zeros = (eqb-true _ 0 (and_left z₀ z₁ h₂), eqb-true _ 0 (and_right z₀ z₁ h₂), eqb-true _ 0 (and_right (z₀ && z₁ && b) z₄ h₄));
        bias = leb-true _ _ (and_right (z₀ && z₁) b h₃);
        mode = leb-true _ _ (and_right (z₀ && z₁ && b && z₄) m h₅);
        size_allowed_lem = and_right (z₀ && z₁ && b && z₄ && m) l h;
      }

  pub parts_good : Good r ps → good_parameters r ps ≡ true
  unfolding good_parameters
  parts_good g =
      rw (
        eq-eqb _ 0 g.zeros.0,
        eq-eqb _ 0 g.zeros.1,
        le-leb _ _ g.bias,
        eq-eqb _ 0 g.zeros.2,
        le-leb _ _ g.mode,
        g.size_allowed_lem,
      )

-- bias indicator, mode and size of a plain type, by its rule and by 01's table
module _ (bias mode a b : ℕ) where
  record ByRule (T : FieldType) : Type 0 where
    bias_is : bias ≤ most (rule_of T).has_bias
    mode_is : mode ≤ most (rule_of T).has_mode
    size_is : allows (rule_of T).sizes (size_of (rule_of T).sizes a b) ≡ true

  -- no mode and no bias indicator
  bare : {c : ℕ} → bias ≤ 0 → mode ≤ 0 → Allowed c 0 0 a b → Allowed c bias mode a b
  bare l m h =
      let e₁ : bias ≡ 0 = omega arith in
      let e₂ : mode ≡ 0 = omega arith in
      rw (e₁, e₂) h

  no_bias : {c : ℕ} → bias ≤ 0 → Allowed c 0 mode a b → Allowed c bias mode a b
  no_bias l h = let e : bias ≡ 0 = omega arith in rw e h

  no_mode : {c : ℕ} → mode ≤ 0 → Allowed c bias 0 a b → Allowed c bias mode a b
  no_mode m h = let e : mode ≡ 0 = omega arith in rw e h

  of_digits : (leb 1 a && leb a 18 && leb b a) ≡ true → Allowed 0x30 0 0 a b
  of_digits h =
      let k : (leb 1 a && leb a 18) ≡ true = and_left (leb 1 a && leb a 18) (leb b a) h in
      packed (leb-true 1 a (and_left (leb 1 a) (leb a 18) k)) (leb-true a 18 (and_right (leb 1 a) (leb a 18) k))
      (leb-true b a (and_right (leb 1 a && leb a 18) (leb b a) h))

  allowed : (T : FieldType) → ByRule T → Allowed (plain_code T) bias mode a b
  unfolding rule_of
  allowed fixed_bytes h = bare h.bias_is h.mode_is (fixed (leb-true (F a b) 32767 h.size_is))
  allowed variable_bytes h = no_bias h.bias_is (variable (leb-true (F a b) 32767 h.size_is) h.mode_is)
  allowed terminated_bytes h = no_bias h.bias_is (null_terminated (leb-true (F a b) 32767 h.size_is) h.mode_is)
  allowed short_bytes h = no_bias h.bias_is (short (leb-true (F a b) 255 h.size_is) h.mode_is)
  allowed integer h = bare h.bias_is h.mode_is (whole_number_row (elem_in (F a b) (2 ∷ 4 ∷ 8 ∷ []) h.size_is))
  allowed reversed_integer h = bare h.bias_is h.mode_is (reversed_whole_number (elem_in (F a b) (2 ∷ 4 ∷ 8 ∷ []) h.size_is))
  allowed packed_decimal h = bare h.bias_is h.mode_is (of_digits h.size_is)
  allowed hex_float h = bare h.bias_is h.mode_is (hexadecimal_float (elem_in (F a b) (4 ∷ 8 ∷ 16 ∷ []) h.size_is))
  allowed reversed_float h = no_mode h.mode_is (reversed_float_row (elem_in (F a b) (4 ∷ 8 ∷ []) h.size_is) h.bias_is)
  allowed binary_float h = no_mode h.mode_is (float (elem_in (F a b) (4 ∷ 8 ∷ []) h.size_is) h.bias_is)

-- The rule of a code's type allows what the table does,
pub rule_allows_lem : (c bias mode a b : ℕ) (T : FieldType) → type_of c ≡ some T → bias ≤ most (rule_of T).has_bias → mode ≤ most (rule_of T).has_mode
    → allows (rule_of T).sizes (size_of (rule_of T).sizes a b) ≡ true → Allowed c bias mode a b
rule_allows_lem c bias mode a b T e l m z = go (code_of_type c T e)
  where
    h : Allowed (plain_code T) bias mode a b
    h = allowed bias mode a b T (record { bias_is = l; mode_is = m; size_is = z })

    go : Coded T c → Allowed c bias mode a b
    go (as_plain q k) = rw q h
    go (as_nullable q k r) = rw (r, q) (R.nullable (rw q at k) h)

-- and the table what the rule does.
pub record ByTable (c bias mode : ℕ) (size : Rule → Size) : Type 0 where
  pub type : FieldType
  pub typed : Coded type c
  pub bias_is : bias ≤ most (rule_of type).has_bias
  pub mode_is : mode ≤ most (rule_of type).has_mode
  pub size_is : allows (rule_of type).sizes (size (rule_of type)) ≡ true

-- the size that two bytes give by a rule, and the one that holds
abbrev given : (a b : ℕ) → Rule → Size
given a b r = size_of r.sizes a b

abbrev held : (a b : ℕ) → Rule → Size
held a b r = size_that_holds r (given a b r)

made : {c bias mode a b : ℕ} (T : FieldType) → c ≡ plain_code T → c < 128 → bias ≤ most (rule_of T).has_bias → mode ≤ most (rule_of T).has_mode
    → allows (rule_of T).sizes (given a b (rule_of T)) ≡ true → ByTable c bias mode (given a b)
made T e k l m z = record { type = T; typed = as_plain e k; bias_is = l; mode_is = m; size_is = z }

table_allows : {c bias mode a b : ℕ} → Allowed c bias mode a b → ByTable c bias mode (given a b)
unfolding rule_of
table_allows (fixed {a = a} {b = b} h) = made fixed_bytes refl (omega arith) (omega arith) (omega arith) (le-leb (F a b) 32767 h)
table_allows (variable {a = a} {b = b} h m) = made variable_bytes refl (omega arith) (omega arith) m (le-leb (F a b) 32767 h)
table_allows (null_terminated {a = a} {b = b} h m) = made terminated_bytes refl (omega arith) (omega arith) m (le-leb (F a b) 32767 h)
table_allows (short {a = a} {b = b} h m) = made short_bytes refl (omega arith) (omega arith) m (le-leb (F a b) 255 h)
table_allows (whole_number_row h) = made integer refl (omega arith) (omega arith) (omega arith) (in_elem h)
table_allows (reversed_whole_number h) = made reversed_integer refl (omega arith) (omega arith) (omega arith) (in_elem h)
table_allows (packed {p = p} {q = q} l h k) =
    let z : (leb 1 p && leb p 18 && leb q p) ≡ true = rw (le-leb 1 p l, le-leb p 18 h, le-leb q p k) in
    made packed_decimal refl (omega arith) (omega arith) (omega arith) z
table_allows (hexadecimal_float h) = made hex_float refl (omega arith) (omega arith) (omega arith) (in_elem h)
table_allows (reversed_float_row h l) = made reversed_float refl (omega arith) l (omega arith) (in_elem h)
table_allows (float h l) = made binary_float refl (omega arith) l (omega arith) (in_elem h)
table_allows (R.nullable k h) =
    let t = table_allows h in
    record { type = t.type; typed = with_indicator k t.typed; bias_is = t.bias_is; mode_is = t.mode_is; size_is = t.size_is }

-- Two bytes suit a code by 01's table where they do by the rule of its type,
pub type_suits : (c a b : ℕ) → suits_type (type_of c) a b ≡ true → Suits c a b
type_suits c a b = go (type_of c) refl
  where
    go : (o : Option FieldType) → type_of c ≡ o → suits_type o a b ≡ true → Suits c a b
    go none e h = absurd (true≢false (sym h))
    go (some T) e h = record { bias = 0; mode = 0; allowed = rule_allows_lem c 0 0 a b T e (omega arith) (omega arith) h }

-- and there alone.
pub suits_type_lem : {c a b : ℕ} → Suits c a b → suits_type (type_of c) a b ≡ true
suits_type_lem s = let t = table_allows s.allowed in rw (type_of_code t.typed) t.size_is

-- A type's default: none; or a float's, of which 01's table allows no field length but 4, 8, 16.
abbrev floats : List ℕ
floats = 4 ∷ 8 ∷ 16 ∷ []

data Default (T : FieldType) : Option ℕ → Type 0 where
  no_default : Default T none
  of_float : {n : ℕ} (ns : List ℕ) → (rule_of T).sizes ≡ one_of ns → ((G : ℕ) → OneOf G ns → OneOf G floats)
      → ((a b : ℕ) → (OneOf (F a b) floats → ⊥) → Means (plain_code T) a b n) → Default T (some n)

binary_length : (G : ℕ) → OneOf G (4 ∷ 8 ∷ []) → OneOf G floats
binary_length G (here e) = here e
binary_length G (there (here e)) = there (here e)
binary_length G (there (there x8)) = elim x8 [ ]

default_of : (T : FieldType) → Default T (rule_of T).default
unfolding rule_of
default_of fixed_bytes = no_default
default_of variable_bytes = no_default
default_of terminated_bytes = no_default
default_of short_bytes = no_default
default_of integer = no_default
default_of reversed_integer = no_default
default_of packed_decimal = no_default
default_of hex_float = of_float floats refl (λ G h. h) (λ a b h. hexadecimal_default h)
default_of reversed_float = of_float (4 ∷ 8 ∷ []) refl binary_length (λ a b h. reversed_default h)
default_of binary_float = of_float (4 ∷ 8 ∷ []) refl binary_length (λ a b h. float_default h)

-- the length that holds where there is a default
module _ (n G : ℕ) where
  length_holds : (OneOf G floats → length_that_holds (some n) G ≡ G) × ((OneOf G floats → ⊥) → length_that_holds (some n) G ≡ n)
  length_holds = go (elem G floats) refl
    where
      go : (b : Bool) → elem G floats ≡ b → (OneOf G floats → (if b then G else n) ≡ G) × ((OneOf G floats → ⊥) → (if b then G else n) ≡ n)
      go true e = (λ h. refl, λ h. absurd (h (elem_in G floats e)))
      go false e = (λ h. absurd (elem_out G floats e h), λ h. refl)

-- without one, every size holds
no_other : (r : Rule) (z : Size) → r.default ≡ none → size_that_holds r z ≡ z
no_other r (bytes G) e = rw e
no_other r (digits p q) e = refl

-- what Q-2 says of a code is its type's default
record ByMeans (c a b n : ℕ) : Type 0 where
  type : FieldType
  typed : Coded type c
  default_is : (rule_of type).default ≡ some n
  other : OneOf (F a b) floats → ⊥

by_means : {c a b n : ℕ} → Means c a b n → ByMeans c a b n
unfolding rule_of
by_means (hexadecimal_default h) = record { type = hex_float; typed = as_plain refl (omega arith); default_is = refl; other = h }
by_means (reversed_default h) = record { type = reversed_float; typed = as_plain refl (omega arith); default_is = refl; other = h }
by_means (float_default h) = record { type = binary_float; typed = as_plain refl (omega arith); default_is = refl; other = h }
by_means (nullable_default k m) =
    let q = by_means m in
    record { type = q.type; typed = with_indicator k q.typed; default_is = q.default_is; other = q.other }

module _ (T : FieldType) (a b : ℕ) where
  -- A size that 01's table allows holds as it is given,
  size_kept : allows (rule_of T).sizes (given a b (rule_of T)) ≡ true → held a b (rule_of T) ≡ given a b (rule_of T)
  size_kept h = go (rule_of T).default refl (default_of T)
    where
      go : (o : Option ℕ) → (rule_of T).default ≡ o → Default T o → held a b (rule_of T) ≡ given a b (rule_of T)
      go none e no_default = no_other (rule_of T) (given a b (rule_of T)) e
      go (some n) e (of_float ns es sub means) =
          let k : elem (F a b) ns ≡ true = rw es at h in
          rw (es, e) (ap bytes ((length_holds n (F a b)).0 (sub (F a b) (elem_in (F a b) ns k))))

  -- the default that Q-2 puts in for it otherwise,
  pub size_default : (c n : ℕ) → Coded T c → Means c a b n → (held a b (rule_of T) ≡ bytes n) × (given 0 n (rule_of T) ≡ bytes n)
  size_default c n k m = go (rule_of T).default refl (default_of T)
    where
      q : ByMeans c a b n
      q = by_means m

      same : q.type ≡ T
      same = same_type q.typed (type_of_code k)

      is : (rule_of T).default ≡ some n
      is = sym (ap (λ U. (rule_of U).default) same) ∙ q.default_is

      go : (o : Option ℕ) → (rule_of T).default ≡ o → Default T o → (held a b (rule_of T) ≡ bytes n) × (given 0 n (rule_of T) ≡ bytes n)
      go none e no_default = absurd (none-ne-some n (sym e ∙ is))
      go (some o) e (of_float ns es sub means) = (rw (es, is) (ap bytes ((length_holds n (F a b)).1 q.other)), rw (es, zero-add n))

-- and nothing else: the parameters that hold by a rule are those that hold by the table,
pub rule_holds : (c bias mode a b : ℕ) (T : FieldType) → type_of c ≡ some T → bias ≤ most (rule_of T).has_bias → mode ≤ most (rule_of T).has_mode
    → allows (rule_of T).sizes (held a b (rule_of T)) ≡ true → Hold c bias mode a b
rule_holds c bias mode a b T typed l m h = go (rule_of T).default refl (default_of T)
  where
    means_of : {n : ℕ} → Coded T c → Means (plain_code T) a b n → Means c a b n
    means_of (as_plain q k) x = rw q x
    means_of (as_nullable q k r) x = rw (r, q) (nullable_default (rw q at k) x)

    float : (n : ℕ) (ns : List ℕ) → (rule_of T).sizes ≡ one_of ns → ((a b : ℕ) → (OneOf (F a b) floats → ⊥) → Means (plain_code T) a b n) → (x : Bool)
        → elem (F a b) floats ≡ x → elem (if x then F a b else n) ns ≡ true → Hold c bias mode a b
    float n ns es means true e k = as_given (rule_allows_lem c bias mode a b T typed l m (rw es k))
    float n ns es means false e k =
        by_default (means_of (code_of_type c T typed) (means a b (elem_out (F a b) floats e))) (rule_allows_lem c bias mode 0 n T typed l m (rw (es, zero-add n) k))

    go : (o : Option ℕ) → (rule_of T).default ≡ o → Default T o → Hold c bias mode a b
    go none e no_default = as_given (rule_allows_lem c bias mode a b T typed l m (rw (no_other (rule_of T) (given a b (rule_of T)) e) at h))
    go (some n) e (of_float ns es sub means) = float n ns es means (elem (F a b) floats) refl (rw (es, e) at h)

-- and the other way round.
pub table_holds : {c bias mode a b : ℕ} → Hold c bias mode a b → ByTable c bias mode (held a b)
table_holds (as_given {a = a} {b = b} h) =
    let t = table_allows h in
    record { type = t.type; typed = t.typed; bias_is = t.bias_is; mode_is = t.mode_is; size_is = rw (size_kept t.type a b t.size_is) t.size_is }
table_holds (by_default {code = c} {a = a} {b = b} {n = n} m h) =
    let t = table_allows h in
    let (x, y) = size_default t.type a b c n t.typed m in
    record { type = t.type; typed = t.typed; bias_is = t.bias_is; mode_is = t.mode_is; size_is = rw x (rw y at t.size_is) }

pub size_given : (c : ℕ) (T : FieldType) → type_of c ≡ some T → (a b bias mode : ℕ) → Allowed c bias mode a b → held a b (rule_of T) ≡ given a b (rule_of T)
size_given c T typed a b bias mode h =
    let t = table_allows h in
    size_kept T a b (rw (same_type t.typed typed) at t.size_is)

pub size_else : (c : ℕ) (ps : List ℕ) → ((bias mode : ℕ) → Allowed c bias mode (get_or ps 6 0) (get_or ps 7 0) → ⊥)
    → ((n : ℕ) → Means c (get_or ps 6 0) (get_or ps 7 0) n → ⊥) → good_type (type_of c) ps ≡ false
size_else c ps no-given none-put-in = go (type_of c) refl
  where
    none_holds : Hold c (bias_of ps) (mode_of ps) (get_or ps 6 0) (get_or ps 7 0) → ⊥
    none_holds (as_given h) = no-given _ _ h
    none_holds (by_default m h) = none-put-in _ m

    judged : (T : FieldType) → type_of c ≡ some T → (b : Bool) → good_parameters (rule_of T) ps ≡ b → b ≡ false
    judged T e false q = refl
    judged T e true q =
        let g = good_parts (rule_of T) ps q in
        absurd (none_holds (rule_holds c (bias_of ps) (mode_of ps) (get_or ps 6 0) (get_or ps 7 0) T e g.bias g.mode g.size_allowed_lem))

    go : (o : Option FieldType) → type_of c ≡ o → good_type o ps ≡ false
    go none e = refl
    go (some T) e = judged T e (good_parameters (rule_of T) ps) refl

-- A binary float of 16 bytes is neither allowed nor replaced.
module _ (a b : ℕ) (e : F a b ≡ 16) where
  pub no_sixteen : (c : ℕ) → OneOf c (0x47 ∷ 0x48 ∷ 0xC7 ∷ 0xC8 ∷ []) → (bias mode : ℕ) → Allowed c bias mode a b → ⊥
  unfolding type_of rule_of
  no_sixteen c k bias mode h = go (typed k) (table_allows h)
    where
      typed : OneOf c (0x47 ∷ 0x48 ∷ 0xC7 ∷ 0xC8 ∷ []) → (T : FieldType) × (type_of c ≡ some T) × ((rule_of T).sizes ≡ one_of (4 ∷ 8 ∷ []))
      typed (here q) = (reversed_float, rw q, refl)
      typed (there (here q)) = (binary_float, rw q, refl)
      typed (there (there (here q))) = (reversed_float, rw q, refl)
      typed (there (there (there (here q)))) = (binary_float, rw q, refl)
      typed (there (there (there (there x16)))) = elim x16 [ ]

      go : (T : FieldType) × (type_of c ≡ some T) × ((rule_of T).sizes ≡ one_of (4 ∷ 8 ∷ [])) → ByTable c bias mode (given a b) → ⊥
      go (T, q, s) t =
          let x : allows (rule_of T).sizes (given a b (rule_of T)) ≡ true = rw (same_type t.typed q) at t.size_is in
          true≢false (sym (rw (s, e) at x))

  pub sixteen_kept : (c n : ℕ) → Means c a b n → ⊥
  sixteen_kept c n m = (by_means m).other (there (there (here e)))
