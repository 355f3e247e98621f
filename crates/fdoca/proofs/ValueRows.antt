-- The value call refuses for the first reason in order, 18 and then 23, and accepts where there is none.
-- Assumes nothing.
use Rattle.std.specs.Prelude.{if◌then◌else◌}
use mathlib.Core.Path.{◌≡◌, refl, sym}
use mathlib.Core.Logic.{◌⊎◌, inl, inr}
use Prim.Native.Nat.{ℕ, ◌+◌, ◌/◌, ◌≤◌, ◌<◌}
use native.Mathlib.Nat.{lt_of_not-le}
use native.Mathlib.Omega.{arith}
use mathlib.Core.Bool.{Bool, true, false, true≢false}
use mathlib.Core.List.{List, [], ◌∷◌}
use mathlib.Core.Option.{Option, none, some}
use lib.Dec.{ltb, eqb}
use lib.Ieee.{Float}
use borrow.Author.Tests.{eqb-true, ltb-true}
use Rattle.fdoca.specs.declared.Value.{Value}
use Rattle.fdoca.specs.declared.Value.TheVariants.{Null}
use Rattle.fdoca.specs.Basics.{lookup, big}
use Rattle.fdoca.specs.FieldType.{FieldType, fixed_bytes, variable_bytes, terminated_bytes, short_bytes, integer, reversed_integer, packed_decimal, hex_float, reversed_float, binary_float, plain, fixed, Size, bytes, digits, in_bytes, one_of, allows, rule_of}
use Rattle.fdoca.specs.Item.{Field, field_length}
use Rattle.fdoca.specs.Packed.{all_below}
use Rattle.fdoca.specs.Float.{Format, short_hexadecimal, long_hexadecimal, short_binary, long_binary, characteristic, float_of}
use Rattle.fdoca.specs.Calls.{Reading, whole, float, reading_by, reading_of, ordered, real, read_by, value}
use Rattle.fdoca.specs.Reasons as R
use Rattle.fdoca.specs.Reasons.{OneOf, here, there, HasType, Numeric, whole_number_row, reversed_whole_number, hexadecimal_float, reversed_float_row, Bits, as_sent, byte_reversed, NoExactFloat, above_254, above_2046, over_53, OfState, OfValue, state, wrong_kind, no_exact_float}
use Rattle.fdoca.proofs.Tests.{and_left, and_right}
use Rattle.fdoca.proofs.Fields.{GoodField}
use Rattle.fdoca.proofs.TypeRows.{elem_in, plain_code}
use Rattle.fdoca.proofs.ItemRows.{plain_of, has_type, type_is}
use Rattle.fdoca.proofs.FloatForms.{above_maximum, short_binary_lem, long_binary_lem, short_hexadecimal_lem, long_over, long_none}
use Rattle.fdoca.proofs.FirstReasons.{Told, Either, told_as}
use Rattle.fdoca.proofs.ReadRows as read

abbrev FourOrEight : ℕ → Type 0
FourOrEight F = OneOf F (4 ∷ 8 ∷ [])

-- a size that is one of some field lengths
pub sized : (ns : List ℕ) (z : Size) → allows (one_of ns) z ≡ true → OneOf (in_bytes z) ns
sized ns (bytes F) h = elem_in F ns h
sized ns (digits p q) h = absurd (true≢false (sym h))

pub one_below : (n m : ℕ) (ns : List ℕ) → all_below m ns ≡ true → OneOf n ns → n < m
one_below n m (k ∷ ns) h (here e) = rw e (ltb-true k m (and_left (ltb k m) (all_below m ns) h))
one_below n m [] h x'' = elim x'' [ ]
one_below n m (k ∷ ns) h (there o) = one_below n m ns (and_right (ltb k m) (all_below m ns) h) o

by_length : (P : ℕ → Type 0) (F : ℕ) → P 4 → P 8 → FourOrEight F → P F
by_length P F a b (here q) = rw q a
by_length P F a b (there (here q)) = rw q b
by_length P F a b (there (there x8)) = elim x8 [ ]

not_none : {A : Type 0} {a : A} → some a ≡ none → ⊥
not_none e = let z : ◌≡◌ {A = ℕ} 0 1 = cc in omega arith

-- a table with 4 and 8
module _ {A : Type 0} (a b : A) (F : ℕ) where
  pub of_table : (r : A) → lookup F ((4, a) ∷ (8, b) ∷ []) ≡ some r → ((F ≡ 4) × (a ≡ r)) ⊎ ((F ≡ 8) × (b ≡ r))
  of_table r = go (eqb F 4) (eqb F 8) refl refl
    where
      go : (x y : Bool) → eqb F 4 ≡ x → eqb F 8 ≡ y → (if x then some a else if y then some b else none) ≡ some r → ((F ≡ 4) × (a ≡ r)) ⊎ ((F ≡ 8) × (b ≡ r))
      go true y p q k = inl (eqb-true F 4 p, cc)
      go false true p q k = inr (eqb-true F 8 q, cc)
      go false false p q k = absurd (let z : ◌≡◌ {A = ℕ} 0 1 = cc in let w : ⊥ = omega arith in w)

module _ (f : Field) (g : GoodField f) where
  -- a field without a reading has none of the numeric types
  none_wrong : reading_of f ≡ none → Numeric f → ⊥
  unfolding reading_by rule_of
  none_wrong n (whole_number_row t) = not_none (rw (type_is f g.typed 0x23 integer (omega arith) refl t) at n)
  none_wrong n (reversed_whole_number t) = not_none (rw (type_is f g.typed 0x24 reversed_integer (omega arith) refl t) at n)
  none_wrong n (hexadecimal_float t x) =
      by_length (λ F. reading_by hex_float F f.bias ≡ none → ⊥) (field_length f) not_none not_none x (rw (type_is f g.typed 0x40 hex_float (omega arith) refl t) at n)
  none_wrong n (reversed_float_row t b) =
      let e = type_is f g.typed 0x47 reversed_float (omega arith) refl t in
      by_length (λ F. reading_by reversed_float F 0 ≡ none → ⊥) (field_length f) not_none not_none (sized (4 ∷ 8 ∷ []) f.size (rw e at g.allowed)) (rw (e, b) at n)
  none_wrong n (R.float t b) =
      let e = type_is f g.typed 0x48 binary_float (omega arith) refl t in
      by_length (λ F. reading_by binary_float F 0 ≡ none → ⊥) (field_length f) not_none not_none (sized (4 ∷ 8 ∷ []) f.size (rw e at g.allowed)) (rw (e, b) at n)

  -- a field with a reading is one of these
  data Binary : (reversed : Bool) → Type 0 where
    last_first : HasType f 0x47 → Binary true
    first_first : HasType f 0x48 → Binary false

  data Read : Reading → Type 0 where
    as_whole : {b : Bool} → HasType f 0x23 ⊎ HasType f 0x24 → Read (whole b)
    hexadecimal_4 : HasType f 0x40 → field_length f ≡ 4 → Read (float false short_hexadecimal)
    hexadecimal_8 : HasType f 0x40 → field_length f ≡ 8 → Read (float false long_hexadecimal)
    binary_4 : {b : Bool} → Binary b → f.bias ≡ 0 → field_length f ≡ 4 → Read (float b short_binary)
    binary_8 : {b : Bool} → Binary b → f.bias ≡ 0 → field_length f ≡ 8 → Read (float b long_binary)

  of_binary : (b : Bool) (r : Reading) → Binary b → (if eqb f.bias 0 then lookup (field_length f) ((4, float b short_binary) ∷ (8, float b long_binary) ∷ []) else none) ≡ some r → Read r
  of_binary b r t = go (eqb f.bias 0) refl
    where
      go : (x : Bool) → eqb f.bias 0 ≡ x → (if x then lookup (field_length f) ((4, float b short_binary) ∷ (8, float b long_binary) ∷ []) else none) ≡ some r → Read r
      go true z k = by (of_table _ _ (field_length f) r k)
        where
          by : ((field_length f ≡ 4) × (float b short_binary ≡ r)) ⊎ ((field_length f ≡ 8) × (float b long_binary ≡ r)) → Read r
          by (inl (l, e)) = rw (← e) (binary_4 t (eqb-true f.bias 0 z) l)
          by (inr (l, e)) = rw (← e) (binary_8 t (eqb-true f.bias 0 z) l)
      go false z k = absurd (let z : ◌≡◌ {A = ℕ} 0 1 = cc in let w : ⊥ = omega arith in w)

  read_is : (r : Reading) → reading_of f ≡ some r → Read r
  unfolding reading_by
  read_is r = go f.type refl
    where
      coded : (T : FieldType) → f.type ≡ T → HasType f (plain_code T)
      coded T e = rw e at (has_type f g.typed)

      no : none ≡ some r → Read r
      no k = absurd (let z : ◌≡◌ {A = ℕ} 0 1 = cc in let w : ⊥ = omega arith in w)

      go : (T : FieldType) → f.type ≡ T → reading_by T (field_length f) f.bias ≡ some r → Read r
      go integer e k = let q : whole false ≡ r = cc in rw (← q) (as_whole (inl (coded integer e)))
      go reversed_integer e k = let q : whole true ≡ r = cc in rw (← q) (as_whole (inr (coded reversed_integer e)))
      go hex_float e k = by (of_table _ _ (field_length f) r k)
        where
          by : ((field_length f ≡ 4) × (float false short_hexadecimal ≡ r)) ⊎ ((field_length f ≡ 8) × (float false long_hexadecimal ≡ r)) → Read r
          by (inl (l, q)) = rw (← q) (hexadecimal_4 (coded hex_float e) l)
          by (inr (l, q)) = rw (← q) (hexadecimal_8 (coded hex_float e) l)
      go reversed_float e k = of_binary true r (last_first (coded reversed_float e)) k
      go binary_float e k = of_binary false r (first_first (coded binary_float e)) k
      go fixed_bytes e k = no k
      go variable_bytes e k = no k
      go terminated_bytes e k = no k
      go short_bytes e k = no k
      go packed_decimal e k = no k

  numeric : {r : Reading} → Read r → Numeric f
  numeric (as_whole (inl t)) = whole_number_row t
  numeric (as_whole (inr t)) = reversed_whole_number t
  numeric (hexadecimal_4 t l) = hexadecimal_float t (here l)
  numeric (hexadecimal_8 t l) = hexadecimal_float t (there (here l))
  numeric (binary_4 (last_first t) z l) = reversed_float_row t z
  numeric (binary_4 (first_first t) z l) = R.float t z
  numeric (binary_8 (last_first t) z l) = reversed_float_row t z
  numeric (binary_8 (first_first t) z l) = R.float t z

  -- its bits
  either : {b : Bool} → Binary b → HasType f 0x47 ⊎ HasType f 0x48
  either (last_first t) = inl t
  either (first_first t) = inr t

  binary_bits : {b : Bool} → Binary b → (v : List ℕ) → Bits f v (big (ordered v b))
  unfolding ordered
  binary_bits (last_first t) v = byte_reversed t
  binary_bits (first_first t) v = as_sent (inr t)

  -- no value is read where there is no exact float,
  no_real : (o : Option Float) → real o ≡ none → o ≡ none
  no_real none e = refl
  no_real (some v) e = absurd (let z : ◌≡◌ {A = ℕ} 0 1 = cc in let w : ⊥ = omega arith in w)

  above : (F : Format) (bits : ℕ) → ((characteristic F bits ≤ F.maximum) → (v : Float) × (float_of F bits ≡ some v)) → float_of F bits ≡ none → F.maximum < characteristic F bits
  above F bits h n = lt_of_not-le (λ (l : characteristic F bits ≤ F.maximum). let (v, e) = h l in let z : ◌≡◌ {A = ℕ} 0 1 = cc in omega arith)

  none_float : {r : Reading} → Read r → (v : List ℕ) → read_by r v ≡ none → NoExactFloat f v
  unfolding read_by ordered characteristic
  none_float (as_whole n) v e = absurd (let z : ◌≡◌ {A = ℕ} 0 1 = cc in let w : ⊥ = omega arith in w)
  none_float (hexadecimal_4 t l) v e =
      let n : float_of short_hexadecimal (big v) ≡ none = no_real (float_of short_hexadecimal (big v)) e in
      let (x, k) = short_hexadecimal_lem (big v) in
      absurd (let z : ◌≡◌ {A = ℕ} 0 1 = cc in let w : ⊥ = omega arith in w)
  none_float (hexadecimal_8 t l) v e = over_53 t l (as_sent (inl t)) (long_none (big v) (no_real (float_of long_hexadecimal (big v)) e))
  none_float (binary_4 {b = b} t z l) v e =
      let bits = big (ordered v b) in
      let h = above short_binary bits (short_binary_lem bits) (no_real (float_of short_binary bits) e) in
      above_254 (either t) l (binary_bits t v) (omega (arith, h))
  none_float (binary_8 {b = b} t z l) v e =
      let bits = big (ordered v b) in
      let h = above long_binary bits (long_binary_lem bits) (no_real (float_of long_binary bits) e) in
      above_2046 (either t) l (binary_bits t v) (omega (arith, h))

  -- and there alone: the type codes that stand against each other,
  abbrev P : ℕ
  P = plain f.code

  code : (c : ℕ) → c < 128 → HasType f c → P ≡ c
  code c l t = plain_of c f.code l t

  whole_code : HasType f 0x23 ⊎ HasType f 0x24 → P ≤ 0x24
  whole_code (inl t) = omega (arith, code 0x23 (omega arith) t)
  whole_code (inr t) = omega (arith, code 0x24 (omega arith) t)

  hexadecimal_code : HasType f 0x40 → P ≡ 0x40
  hexadecimal_code t = code 0x40 (omega arith) t

  binary_code : HasType f 0x47 ⊎ HasType f 0x48 → 0x47 ≤ P
  binary_code (inl t) = omega (arith, code 0x47 (omega arith) t)
  binary_code (inr t) = omega (arith, code 0x48 (omega arith) t)

  -- and the bits
  hexadecimal_is : {v : List ℕ} {bits : ℕ} → HasType f 0x40 → Bits f v bits → bits ≡ big v
  hexadecimal_is t (as_sent x) = refl
  hexadecimal_is t (byte_reversed u) = absurd (let z : ⊥ = omega (arith, hexadecimal_code t, code 0x47 (omega arith) u) in z)

  binary_is : {b : Bool} {v : List ℕ} {bits : ℕ} → Binary b → Bits f v bits → bits ≡ big (ordered v b)
  unfolding ordered
  binary_is (last_first t) (byte_reversed u) = refl
  binary_is (last_first t) (as_sent (inl u)) = absurd (let z : ⊥ = omega (arith, hexadecimal_code u, code 0x47 (omega arith) t) in z)
  binary_is (last_first t) (as_sent (inr u)) = absurd (let z : ⊥ = omega (arith, code 0x48 (omega arith) u, code 0x47 (omega arith) t) in z)
  binary_is (first_first t) (as_sent x) = refl
  binary_is (first_first t) (byte_reversed u) = absurd (let z : ⊥ = omega (arith, code 0x48 (omega arith) t, code 0x47 (omega arith) u) in z)

  real_none : (F : Format) (bits : ℕ) (a : Value) → real (float_of F bits) ≡ some a → float_of F bits ≡ none → ⊥
  real_none F bits a e n = let k : real none ≡ some a = rw n at e in let z : ◌≡◌ {A = ℕ} 0 1 = cc in omega arith

  no_some : {r : Reading} → Read r → (v : List ℕ) (a : Value) → read_by r v ≡ some a → NoExactFloat f v → ⊥
  unfolding read_by characteristic
  no_some (as_whole w) v a e (above_254 x l b h) = omega (arith, whole_code w, binary_code x)
  no_some (as_whole w) v a e (above_2046 x l b h) = omega (arith, whole_code w, binary_code x)
  no_some (as_whole w) v a e (over_53 t l b o) = omega (arith, whole_code w, hexadecimal_code t)
  no_some (hexadecimal_4 t k) v a e (above_254 x l b h) = omega (arith, hexadecimal_code t, binary_code x)
  no_some (hexadecimal_4 t k) v a e (above_2046 x l b h) = omega (arith, hexadecimal_code t, binary_code x)
  no_some (hexadecimal_4 t k) v a e (over_53 u l b o) = omega arith
  no_some (hexadecimal_8 t k) v a e (above_254 x l b h) = omega arith
  no_some (hexadecimal_8 t k) v a e (above_2046 x l b h) = omega (arith, hexadecimal_code t, binary_code x)
  no_some (hexadecimal_8 t k) v a e (over_53 u l b o) =
      real_none long_hexadecimal (big v) a (unfold ordered in e) (long_over (big v) (rw (hexadecimal_is t b) at o))
  no_some (binary_4 {b = r} t z k) v a e (above_254 x l b h) =
      real_none short_binary (big (ordered v r)) a e (above_maximum short_binary (big (ordered v r)) (rw (binary_is t b) at h))
  no_some (binary_4 t z k) v a e (above_2046 x l b h) = omega arith
  no_some (binary_4 t z k) v a e (over_53 u l b o) = omega arith
  no_some (binary_8 t z k) v a e (above_254 x l b h) = omega arith
  no_some (binary_8 {b = r} t z k) v a e (above_2046 x l b h) =
      real_none long_binary (big (ordered v r)) a e (above_maximum long_binary (big (ordered v r)) (rw (binary_is t b) at h))
  no_some (binary_8 t z k) v a e (over_53 u l b o) = omega (arith, binary_code (either t), hexadecimal_code u)

layout_of : (T : FieldType) (F bias : ℕ) (r : Reading) → reading_by T F bias ≡ some r → (rule_of T).layout ≡ fixed
unfolding reading_by rule_of
layout_of integer F b r e = refl
layout_of reversed_integer F b r e = refl
layout_of packed_decimal F b r e = refl
layout_of hex_float F b r e = refl
layout_of reversed_float F b r e = refl
layout_of binary_float F b r e = refl
layout_of fixed_bytes F b r e = refl
layout_of variable_bytes F b r e = absurd (let z : ◌≡◌ {A = ℕ} 0 1 = cc in let w : ⊥ = omega arith in w)
layout_of terminated_bytes F b r e = absurd (let z : ◌≡◌ {A = ℕ} 0 1 = cc in let w : ⊥ = omega arith in w)
layout_of short_bytes F b r e = absurd (let z : ◌≡◌ {A = ℕ} 0 1 = cc in let w : ⊥ = omega arith in w)

-- the layout of a field that is read, and the length of a float
pub float_length : (f : Field) → GoodField f → (b : Bool) (F : Format) → reading_of f ≡ some (float b F) → field_length f ≡ (1 + F.characteristic_bits + F.fraction_bits) / 8
float_length f g b F e = go (read_is f g (float b F) e)
  where
    go : {b : Bool} {F : Format} → Read f g (float b F) → field_length f ≡ (1 + F.characteristic_bits + F.fraction_bits) / 8
    go (hexadecimal_4 t l) = l
    go (hexadecimal_8 t l) = l
    go (binary_4 t z l) = l
    go (binary_8 t z l) = l

pub at_most_8 : (f : Field) → GoodField f → (r : Reading) → reading_of f ≡ some r → field_length f ≤ 8
unfolding rule_of
at_most_8 f g r e = go (read_is f g r e)
  where
    of_whole : (T : FieldType) → f.type ≡ T → (rule_of T).sizes ≡ one_of (2 ∷ 4 ∷ 8 ∷ []) → field_length f ≤ 8
    of_whole T t z = let l : field_length f < 9 = one_below (field_length f) 9 (2 ∷ 4 ∷ 8 ∷ []) refl (sized (2 ∷ 4 ∷ 8 ∷ []) f.size (rw (t, z) at g.allowed)) in omega arith

    go : {r : Reading} → Read f g r → field_length f ≤ 8
    go (as_whole (inl t)) = of_whole integer (type_is f g.typed 0x23 integer (omega arith) refl t) refl
    go (as_whole (inr t)) = of_whole reversed_integer (type_is f g.typed 0x24 reversed_integer (omega arith) refl t) refl
    go (hexadecimal_4 t l) = omega arith
    go (hexadecimal_8 t l) = omega arith
    go (binary_4 t z l) = omega arith
    go (binary_8 t z l) = omega arith

pub reading_fixed : (f : Field) (r : Reading) → reading_of f ≡ some r → (rule_of f.type).layout ≡ fixed
reading_fixed f r e = layout_of f.type (field_length f) f.bias r e

some_right : (f : Field) → GoodField f → (r : Reading) → reading_of f ≡ some r → (Numeric f → ⊥) → ⊥
some_right f g r e n = n (numeric f g (read_is f g r e))

none_bad : (f : Field) → GoodField f → (r : Reading) → reading_of f ≡ some r → (v : List ℕ) → read_by r v ≡ none → Numeric f × NoExactFloat f v
none_bad f g r e v n = (numeric f g (read_is f g r e), none_float f g (read_is f g r e) v n)

some_good : (f : Field) → GoodField f → (r : Reading) → reading_of f ≡ some r → (v : List ℕ) (a : Value) → read_by r v ≡ some a → Numeric f × NoExactFloat f v → ⊥
some_good f g r e v a h n = no_some f g (read_is f g r e) v a h n.1

module _ (d s : List ℕ) (k : ℕ) where
  abbrev Wrong : Field → Type 0
  Wrong f = Numeric f → ⊥

  abbrev Bad : Field → List ℕ → Type 0
  Bad f v = Numeric f × NoExactFloat f v

  abbrev OfKind : List ℕ → ℕ → ℕ → Type 0
  OfKind = read.OfKind 23 Null reading_of read_by Wrong Bad none_wrong some_right none_bad some_good d s k

  abbrev OfBytes : List ℕ → ℕ → ℕ → Type 0
  OfBytes = read.OfBytes 23 Null reading_of read_by Wrong Bad none_wrong some_right none_bad some_good d s k

  to_value : (t : List ℕ) (m p : ℕ) → Either (OfState d s k) (Either OfKind OfBytes) t m p → OfValue d s k t m p
  to_value t m p (inl r) = state r
  to_value t m p (inr (inl (read.another u x a))) = wrong_kind u x a
  to_value t m p (inr (inr (read.bad u x b z w))) = no_exact_float u x w.0 b z w.1

  of_value : (t : List ℕ) (m p : ℕ) → OfValue d s k t m p → Either (OfState d s k) (Either OfKind OfBytes) t m p
  of_value t m p (state r) = inl r
  of_value t m p (wrong_kind u x a) = inr (inl (read.another u x a))
  of_value t m p (no_exact_float u x n b z w) = inr (inr (read.bad u x b z (n, w)))

  pub value_told : Told (OfValue d s k) (value d s k)
  unfolding value
  value_told =
      told_as to_value of_value
      (read.read_told 23 Null reading_of read_by Wrong Bad none_wrong some_right none_bad some_good d s k
      (read.value_read 23 Null reading_of read_by Wrong Bad none_wrong some_right none_bad some_good d s k)
      (read.bytes_told 23 Null reading_of read_by Wrong Bad none_wrong some_right none_bad some_good d s k))
