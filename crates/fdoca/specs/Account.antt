-- The standard's own account of an item's bytes (000, section 4.3.3), apart from how an item is measured: three runs of bytes, what precedes
-- the value, the value, and what follows it.
use Rattle.std.specs.Prelude.{◌≡◌, ◌≢◌, ℕ, ◌+◌, ◌*◌, ◌^◌, ◌≤◌, ◌<◌, Bool, true, false, List, [], ◌∷◌, ◌++◌, ℤ, pos, ◌-ℤ◌, length, replicate}
use Rattle.fdoca.specs.FieldType.{FieldType, fixed_bytes, variable_bytes, terminated_bytes, short_bytes, integer, reversed_integer, packed_decimal, hex_float, reversed_float, binary_float, Size, bytes, digits, in_bytes}
use Rattle.fdoca.specs.Item.{Field}

-- The types whose every value fills the field's size: byte strings of fixed length, integers, packed decimals, floats.
pub data FixedLength : FieldType → Type 0 where
  string : FixedLength fixed_bytes
  binary : FixedLength integer
  binary_reversed : FixedLength reversed_integer
  packed : FixedLength packed_decimal
  float_hex : FixedLength hex_float
  float_reversed : FixedLength reversed_float
  float : FixedLength binary_float

-- The bytes v fill a size: F of them; or, in half-bytes, two to a byte, the digits and a sign, behind one that is unused where these are odd in
-- number.
pub data Fills : Size → List ℕ → Type 0 where
  of_bytes : {F : ℕ} {v : List ℕ} → length v ≡ F → Fills (bytes F) v
  of_half_bytes : {p fraction : ℕ} {v : List ℕ} → 2 * length v ≡ p + 1 → Fills (digits p fraction) v
  one_unused : {p fraction : ℕ} {v : List ℕ} → 2 * length v ≡ 1 + (p + 1) → Fills (digits p fraction) v

-- The bytes r that follow a value of n bytes, by mode and field length. F = 0 sets no limit. In mode 1 F is the largest length, and only the
-- value is sent. In mode 0 F bytes are reserved, and all of them are sent. (An accepted descriptor has no other mode: Fields.modes-known.)
pub data Reserved (mode F n : ℕ) : List ℕ → Type 0 where
  no_limit : F ≡ 0 → Reserved mode F n []
  value_only : F ≢ 0 → mode ≢ 0 → n ≤ F → Reserved mode F n []
  all_sent : {r : List ℕ} → F ≢ 0 → mode ≡ 0 → n + length r ≡ F → Reserved mode F n r

-- No byte is zero.
pub data NonZero : List ℕ → Type 0 where
  none_left : NonZero []
  one_more : {b : ℕ} {bs : List ℕ} → b ≢ 0 → NonZero bs → NonZero (b ∷ bs)

-- The bytes of a value, after any null indicator. F is the size in bytes.
pub data Value (mode : ℕ) (z : Size) : FieldType → List ℕ → List ℕ → List ℕ → Type 0 where
  -- all of the size
  of_size : {T : FieldType} {v : List ℕ} → FixedLength T → Fills z v → Value mode z T [] v []
  -- LL, a two-byte signed binary integer, which is not negative
  after_two : {a b : ℕ} {v r : List ℕ} → a * 256 + b ≡ length v → length v < 32768 → Reserved mode (in_bytes z) (length v) r
      → Value mode z variable_bytes (a ∷ b ∷ []) v r
  -- L, a one-byte unsigned binary integer
  after_one : {a : ℕ} {v r : List ℕ} → a ≡ length v → Reserved mode (in_bytes z) (length v) r → Value mode z short_bytes (a ∷ []) v r
  -- bytes that are not zero, and a zero byte
  up_to_zero : {v r : List ℕ} → NonZero v → Reserved mode (in_bytes z) (length v) r → Value mode z terminated_bytes [] v (0 ∷ r)

-- The bytes of an item: of a type that is not nullable, of a null, and of a value behind its null indicator. An item with any other indicator is spoiled
-- (document 02, Q-8).
pub data Item (f : Field) : Bool → List ℕ → List ℕ → List ℕ → Type 0 where
  plain : {p v r : List ℕ} → f.code < 128 → Value f.mode f.size f.type p v r → Item f false p v r
  null : {b : ℕ} → 128 ≤ f.code → 0x80 ≤ b → Item f true (b ∷ []) [] []
  value : {p v r : List ℕ} → 128 ≤ f.code → Value f.mode f.size f.type p v r → Item f false (0x00 ∷ p) v r

-- An item's null mark and its three runs of bytes.
pub record Parts : Type 0 where
  pub is_null : Bool
  pub lead : List ℕ
  pub value : List ℕ
  pub spare : List ℕ

-- The bytes s begin with an item of the field f: its parts, and some bytes behind them.
pub record Begins (f : Field) (s : List ℕ) (x : Parts) : Type 0 where
  pub rest : List ℕ
  pub split : s ≡ x.lead ++ (x.value ++ (x.spare ++ rest))
  pub account : Item f x.is_null x.lead x.value x.spare

-- A block: the items of its fields, one after the other, and nothing behind them.
pub data Block : List Field → List Parts → List ℕ → Type 0 where
  done : Block [] [] []
  next : {f : Field} {fs : List Field} {ps : List Parts} {s : List ℕ} (x : Parts) → Item f x.is_null x.lead x.value x.spare
      → Block fs ps s → Block (f ∷ fs) (x ∷ ps) (x.lead ++ (x.value ++ (x.spare ++ s)))

-- The number of a packed decimal's digits, most significant first: a digit before n others counts 10 to the n.
pub data Digits : List ℕ → ℕ → Type 0 where
  no_digit : Digits [] 0
  digit : {d n : ℕ} {ds : List ℕ} → d ≤ 9 → Digits ds n → Digits (d ∷ ds) (d * 10 ^ length ds + n)

-- The sign's half-byte, and the whole number that it makes of n.
pub data Signed (n : ℕ) : ℕ → ℤ → Type 0 where
  plus_a : Signed n 0xA (pos n)
  minus_b : Signed n 0xB (pos 0 -ℤ pos n)
  plus_c : Signed n 0xC (pos n)
  minus_d : Signed n 0xD (pos 0 -ℤ pos n)
  plus_e : Signed n 0xE (pos n)
  plus_f : Signed n 0xF (pos n)

-- So many half-bytes are unused before p digits: one where p is even.
pub data Unused (p : ℕ) : ℕ → Type 0 where
  before_odd : (k : ℕ) → p ≡ 2 * k + 1 → Unused p 0
  before_even : (k : ℕ) → p ≡ 2 * k → Unused p 1

-- The bytes of half-bytes, two to a byte, the left one first.
abbrev pub in_pairs : List ℕ → List ℕ
in_pairs [] = []
in_pairs (a ∷ []) = []
in_pairs (a ∷ b ∷ hs) = (a * 16 + b) ∷ in_pairs hs

-- The bytes v are those of p digits with a sign, which stand for the whole number z: DD .. DS in half-bytes, behind a zero
-- where one is unused.
pub record Packed (p : ℕ) (v : List ℕ) (z : ℤ) : Type 0 where
  pub unused : ℕ
  pub is_unused : Unused p unused
  pub ds : List ℕ
  pub count : length ds ≡ p
  pub magnitude : ℕ
  pub are_digits : Digits ds magnitude
  pub sign : ℕ
  pub is_sign : Signed magnitude sign z
  pub written : v ≡ in_pairs (replicate unused 0 ++ (ds ++ (sign ∷ [])))
