-- One item of a data block: how it is measured (document 01, "Field types", and the order within an item; document 02, Q-8).
use Rattle.std.specs.Prelude.{ℕ, suc, ◌+◌, ◌-◌, min, Bool, true, false, List, [], ◌∷◌, leb, ltb, eqb, length, take, if◌then◌else◌}
use Rattle.fdoca.specs.Basics.{big}
use Rattle.fdoca.specs.FieldType.{FieldType, LengthField, signed_two, unsigned_one, Layout, fixed, counted, terminated, Size, in_bytes, rule_of, nullable}

-- A field ("Unfolding and walk"): an SDA's id, its type code with the type that it stands for, and the parameters that hold for it: mode, bias
-- indicator and size.
pub record Field : Type 0 where
  pub id : ℕ
  pub code : ℕ
  pub type : FieldType
  pub mode : ℕ
  pub bias : ℕ
  pub size : Size

-- A field with another size.
abbrev pub with_size : Size → Field → Field
with_size z f = record { id = f.id; code = f.code; type = f.type; mode = f.mode; bias = f.bias; size = z }

-- The field's length in bytes: the F by which its items are measured.
abbrev pub field_length : Field → ℕ
field_length f = in_bytes f.size

-- What measuring an item finds: a refusal's number (13, 14, 15, 24), or the null mark and three lengths (Q-6), which add up to the item's: the lead, which
-- precedes the value (null indicator and length field), the value, and the spare, which follows it (terminator and reserved space).
pub data Measured : Type 0 where
  refused : ℕ → Measured
  item : Bool → ℕ → ℕ → ℕ → Measured

-- The space that mode and F set aside for a value: none of its own (F = 0), at most F bytes (mode 1), or F bytes, all of which are sent
-- (mode 0).
pub data Space : Type 0 where
  unbounded : Space
  limited : ℕ → Space
  reserved : ℕ → Space

unfoldable pub space : (mode F : ℕ) → Space
space mode F = if eqb F 0 then unbounded else if eqb mode 0 then reserved F else limited F

-- F bytes.
unfoldable pub measure_fixed : (F : ℕ) → List ℕ → Measured
measure_fixed F s = if leb F (length s) then item false 0 F 0 else refused 13

abbrev pub width : LengthField → ℕ
width signed_two = 2
width unsigned_one = 1

-- L is negative: its sign bit is set.
abbrev pub is_negative : LengthField → ℕ → Bool
is_negative signed_two L = leb 0x8000 L
is_negative unsigned_one L = false

-- With F above 0, L is over F.
abbrev pub is_over : Space → ℕ → Bool
is_over unbounded L = false
is_over (limited F) L = ltb F L
is_over (reserved F) L = ltb F L

-- How many bytes of the space stay unused behind a value of L bytes, and are sent all the same.
abbrev pub unused : Space → ℕ → ℕ
unused unbounded L = 0
unused (limited F) L = 0
unused (reserved F) L = F - L

-- The body behind a length field of w bytes that says L; so many bytes are left for it.
unfoldable pub measure_body : Space → (w L left : ℕ) → Measured
measure_body sp w L left = if leb (L + unused sp L) left then item false w L (unused sp L) else refused 13

-- A length field, then the body.
unfoldable pub measure_counted : LengthField → Space → List ℕ → Measured
measure_counted k sp s =
    if ltb (length s) (width k) then refused 13
    else if is_negative k (big (take (width k) s)) then refused 14
    else if is_over sp (big (take (width k) s)) then refused 14
    else measure_body sp (width k) (big (take (width k) s)) (length s - width k)

-- How many bytes stand before the first zero byte; all of them where none is zero.
unfoldable pub before_zero : List ℕ → ℕ
before_zero [] = 0
before_zero (b ∷ bs) = if eqb b 0 then 0 else suc (before_zero bs)

-- Bytes up to a zero byte, which with F above 0 stands among the first F + 1.
unfoldable pub measure_terminated : Space → List ℕ → Measured
measure_terminated unbounded s =
    if ltb (before_zero s) (length s) then item false 0 (before_zero s) 1
    else refused 13
measure_terminated (limited F) s =
    if ltb (before_zero s) (min (F + 1) (length s)) then item false 0 (before_zero s) 1
    else if ltb (length s) (F + 1) then refused 13
    else refused 15
measure_terminated (reserved F) s =
    if ltb (length s) (F + 1) then refused 13
    else if leb (before_zero s) F then item false 0 (before_zero s) (F + 1 - before_zero s)
    else refused 15

-- An item without null indicator, or what follows one.
unfoldable pub measure_value : Layout → (mode F : ℕ) → List ℕ → Measured
measure_value fixed mode F s = measure_fixed F s
measure_value (counted k) mode F s = measure_counted k (space mode F) s
measure_value terminated mode F s = measure_terminated (space mode F) s

-- An item behind its null indicator.
abbrev pub indicated : Measured → Measured
indicated (refused n) = refused n
indicated (item z p v r) = item z (1 + p) v r

-- A null indicator is one byte (Q-8): X'00' means a value, which follows, X'80' to X'FF' a null, which is that byte alone. The rest are refused with 24,
-- before L is read.
unfoldable pub measure_nullable : Layout → (mode F : ℕ) → List ℕ → Measured
measure_nullable l mode F [] = refused 13
measure_nullable l mode F (b ∷ s) =
    if eqb b 0x00 then indicated (measure_value l mode F s)
    else if leb 0x80 b then item true 1 0 0
    else refused 24

unfoldable pub measure_item : (isNullable : Bool) → Layout → (mode F : ℕ) → List ℕ → Measured
measure_item isNullable l mode F s = if isNullable then measure_nullable l mode F s else measure_value l mode F s

-- The item at the beginning of the bytes s, by the rule of its field's type.
unfoldable pub measure : Field → List ℕ → Measured
measure f s = measure_item (nullable f.code) (rule_of f.type).layout f.mode (field_length f) s
