-- Document 01's table "Numbers a caller can meet", with 6 as Q-2 leaves it, 20 by Q-1, group triplets and 21 by Q-4, rows to the end and 22 by Q-5, 23 by
-- Q-7, and 24 by Q-8, row by row: for each number its column "When", said of a triplet, a group, an item or a call by itself, with its place and without
-- regard to the other rows; then 01's order.
-- Bytes are read at their places. The unfolding, a field's length in bytes, the split of bytes into halves, the number that bytes are and the standard's
-- account of an item are taken from their own files; nothing is taken from the check, from measuring, from the calls, or from the floats.
use Rattle.std.specs.Prelude.{◌≡◌, ◌≢◌, ◌⊎◌, ℕ, zero, suc, ◌+◌, ◌*◌, ◌/◌, ◌%◌, ◌^◌, ◌≤◌, ◌<◌, false, List, [], ◌∷◌, ◌++◌, reverse, take, drop, get_or}
use Rattle.std.proofs.Math.Option.{none, some}
use Rattle.std.proofs.Math.ListN.{length}
use Rattle.fdoca.specs.Basics.{big, repeat}
use Rattle.fdoca.specs.FieldType.{digits}
use Rattle.fdoca.specs.Item.{Field, field_length}
use Rattle.fdoca.specs.Account.{Parts, Begins, Block, Unused}
use Rattle.fdoca.specs.Unfolding.{unfolded, repeated}
use Rattle.fdoca.specs.Packed.{half_bytes}

abbrev pub byte : List ℕ → (place : ℕ) → ℕ
byte s p = get_or s p 0

-- An unsigned number of two bytes, most significant first.
abbrev pub two_bytes : List ℕ → (place : ℕ) → ℕ
two_bytes s p = byte s p * 256 + byte s (p + 1)

-- A number is one of a few.
pub data OneOf : ℕ → List ℕ → Type 0 where
  here : {n m : ℕ} {ns : List ℕ} → n ≡ m → OneOf n (m ∷ ns)
  there : {n m : ℕ} {ns : List ℕ} → OneOf n ns → OneOf n (m ∷ ns)

-- TRIPLETS, numbered from 0, left to right. Byte 0 is LENGTH, counting itself.
unfoldable pub place : List ℕ → (j : ℕ) → ℕ
place d zero = 0
place d (suc j) = place d j + byte d (place d j)

abbrev pub length_byte : List ℕ → (j : ℕ) → ℕ
length_byte d j = byte d (place d j)

-- Byte i of triplet j.
abbrev pub byte_of : List ℕ → (j i : ℕ) → ℕ
byte_of d j i = byte d (place d j + i)

-- LENGTH is at least 2, and the triplet ends within the descriptor.
pub record NotTorn (d : List ℕ) (j : ℕ) : Type 0 where
  pub long : 2 ≤ length_byte d j
  pub fits : place d j + length_byte d j ≤ length d

-- Triplet j is there: those before it are not torn, and bytes are left.
pub record There (d : List ℕ) (j : ℕ) : Type 0 where
  pub before : (i : ℕ) → i < j → NotTorn d i
  pub left : place d j < length d

-- Byte 1 is the construct type.
abbrev pub sda_byte : ℕ
sda_byte = 0x70

abbrev pub rlo_byte : ℕ
rlo_byte = 0x71

abbrev pub gda_byte : ℕ
gda_byte = 0x75

abbrev pub isd_byte : ℕ
isd_byte = 0x7E

abbrev pub cpt_byte : ℕ
cpt_byte = 0x7F

pub record Is (d : List ℕ) (construct j : ℕ) : Type 0 where
  pub there : There d j
  pub type : byte_of d j 1 ≡ construct

-- An RLO or a GDA (Q-4's group triplet): a triplet with groups, which CPTs may continue.
abbrev pub HasGroups : List ℕ → (j : ℕ) → Type 0
HasGroups d j = Is d rlo_byte j ⊎ Is d gda_byte j

-- An SDA, an RLO or a GDA describes the id in byte 2.
pub record Describes (d : List ℕ) (id j : ℕ) : Type 0 where
  pub kind : Is d sda_byte j ⊎ HasGroups d j
  pub named : byte_of d j 2 ≡ id

-- Triplet j belongs to the row of r, an RLO or a GDA: it is r, or stands behind it with CPTs alone between.
pub record InRow (d : List ℕ) (r j : ℕ) : Type 0 where
  pub head : HasGroups d r
  pub behind : r ≤ j
  pub continued : (i : ℕ) → r < i → i ≤ j → Is d cpt_byte i

-- Group k of triplet j lies within its LENGTH: from byte 3, three bytes each.
abbrev pub HasGroup : List ℕ → (j k : ℕ) → Type 0
HasGroup d j k = 6 + 3 * k ≤ length_byte d j

abbrev pub reference : List ℕ → (j k : ℕ) → ℕ
reference d j k = byte_of d j (3 + 3 * k)

-- The two bytes behind the id: of a GDA's group a field length, of an RLO's the elements taken and the repetition factor.
abbrev pub byte1 : List ℕ → (j k : ℕ) → ℕ
byte1 d j k = byte_of d j (4 + 3 * k)

abbrev pub byte2 : List ℕ → (j k : ℕ) → ℕ
byte2 d j k = byte_of d j (5 + 3 * k)

abbrev pub taken : List ℕ → (j k : ℕ) → ℕ
taken d j k = byte1 d j k

abbrev pub factor : List ℕ → (j k : ℕ) → ℕ
factor d j k = byte2 d j k

-- The bytes of group k of triplet j end the descriptor (Q-5).
abbrev pub EndsDescriptor : List ℕ → (j k : ℕ) → Type 0
EndsDescriptor d j k = place d j + (6 + 3 * k) ≡ length d

-- The row of r refers to triplet q by an id. An RLO or GDA counts as described after its last CPT, so q stands before it.
pub record Refers (d : List ℕ) (r id q : ℕ) : Type 0 where
  pub earlier : q < r
  pub describes : Describes d id q

-- COUNTS. An SDA's extents follow its first 12 bytes, two bytes each, the highest dimension first.
abbrev pub extent : List ℕ → (q k : ℕ) → ℕ
extent d q k = two_bytes d (place d q + (12 + 2 * k))

-- The product of all extents but the highest, of an SDA with one, two or three.
pub data Lower (d : List ℕ) (q : ℕ) : ℕ → Type 0 where
  one : length_byte d q ≡ 14 → Lower d q 1
  two : length_byte d q ≡ 16 → Lower d q (extent d q 1)
  three : length_byte d q ≡ 18 → Lower d q (extent d q 1 * extent d q 2)

mutual
  -- The SDA, RLO or GDA q stands for n items: an SDA for the product of its extents, or one without; an RLO or GDA for those of all its groups.
  pub data Counts (d : List ℕ) : (q n : ℕ) → Type 0 where
    single : {q : ℕ} → Is d sda_byte q → length_byte d q ≡ 12 → Counts d q 1
    array : {q l : ℕ} → Is d sda_byte q → Lower d q l → Counts d q (extent d q 0 * l)
    row : {q j k n : ℕ} → UpTo d q j k n → length_byte d j ≡ 3 + 3 * k → (Is d cpt_byte (suc j) → ⊥) → Counts d q n

  -- Group k of triplet j adds n items to the row of r. In an RLO, elements taken 0 keeps the lower triplet as it is; another number replaces the
  -- highest extent of an SDA. In a GDA a group is one item.
  pub data Adds (d : List ℕ) : (r j k n : ℕ) → Type 0 where
    kept : {r j k q n : ℕ} → Is d rlo_byte r → Refers d r (reference d j k) q → taken d j k ≡ 0 → Counts d q n → Adds d r j k (factor d j k * n)
    replaced : {r j k q l : ℕ} → Is d rlo_byte r → Refers d r (reference d j k) q → 0 < taken d j k → Is d sda_byte q → Lower d q l
        → Adds d r j k (factor d j k * (taken d j k * l))
    column : {r j k : ℕ} → Is d gda_byte r → Adds d r j k 1

  -- The row of r counts n items before group k of its triplet j.
  pub data UpTo (d : List ℕ) : (r j k n : ℕ) → Type 0 where
    start : {r : ℕ} → HasGroups d r → UpTo d r r 0 0
    group : {r j k n m : ℕ} → UpTo d r j k n → HasGroup d j k → Adds d r j k m → UpTo d r j (suc k) (n + m)
    continued : {r j k n : ℕ} → UpTo d r j k n → length_byte d j ≡ 3 + 3 * k → Is d cpt_byte (suc j) → UpTo d r (suc j) 0 n

-- FIELD TYPES (01's table, and X'30' by Q-1): type code, bias indicator, mode, and the last two bytes of the parameters, which are F or, of X'30',
-- digits and fraction digits. A type plus X'80' is its nullable form.
abbrev pub F : (a b : ℕ) → ℕ
F a b = a * 256 + b

pub data Allowed : (code bias mode a b : ℕ) → Type 0 where
  fixed : {a b : ℕ} → F a b ≤ 32767 → Allowed 0x01 0 0 a b
  variable : {mode a b : ℕ} → F a b ≤ 32767 → mode ≤ 1 → Allowed 0x02 0 mode a b
  null_terminated : {mode a b : ℕ} → F a b ≤ 32767 → mode ≤ 1 → Allowed 0x03 0 mode a b
  short : {mode a b : ℕ} → F a b ≤ 255 → mode ≤ 1 → Allowed 0x07 0 mode a b
  whole_number_row : {a b : ℕ} → OneOf (F a b) (2 ∷ 4 ∷ 8 ∷ []) → Allowed 0x23 0 0 a b
  reversed_whole_number : {a b : ℕ} → OneOf (F a b) (2 ∷ 4 ∷ 8 ∷ []) → Allowed 0x24 0 0 a b
  packed : {p q : ℕ} → 1 ≤ p → p ≤ 18 → q ≤ p → Allowed 0x30 0 0 p q
  hexadecimal_float : {a b : ℕ} → OneOf (F a b) (4 ∷ 8 ∷ 16 ∷ []) → Allowed 0x40 0 0 a b
  reversed_float_row : {bias a b : ℕ} → OneOf (F a b) (4 ∷ 8 ∷ []) → bias ≤ 1 → Allowed 0x47 bias 0 a b
  float : {bias a b : ℕ} → OneOf (F a b) (4 ∷ 8 ∷ []) → bias ≤ 1 → Allowed 0x48 bias 0 a b
  nullable : {code bias mode a b : ℕ} → code < 0x80 → Allowed code bias mode a b → Allowed (code + 0x80) bias mode a b

-- Q-4: two bytes suit a type code by 01's table, with no default put in: some bias indicator and mode stand beside them there.
pub record Suits (code a b : ℕ) : Type 0 where
  pub bias : ℕ
  pub mode : ℕ
  pub allowed : Allowed code bias mode a b

-- Q-2: what an F that is replaced means. For X'40' an F other than 4, 8, 16 means 8; for X'47' and X'48' an F other than 4, 8 or 16 means 4.
pub data Means : (code a b n : ℕ) → Type 0 where
  hexadecimal_default : {a b : ℕ} → (OneOf (F a b) (4 ∷ 8 ∷ 16 ∷ []) → ⊥) → Means 0x40 a b 8
  reversed_default : {a b : ℕ} → (OneOf (F a b) (4 ∷ 8 ∷ 16 ∷ []) → ⊥) → Means 0x47 a b 4
  float_default : {a b : ℕ} → (OneOf (F a b) (4 ∷ 8 ∷ 16 ∷ []) → ⊥) → Means 0x48 a b 4
  nullable_default : {code a b n : ℕ} → code < 0x80 → Means code a b n → Means (code + 0x80) a b n

-- The parameters hold as they are given; or with the default n in place of F, whose two bytes are then 0 and n.
pub data Hold : (code bias mode a b : ℕ) → Type 0 where
  as_given : {code bias mode a b : ℕ} → Allowed code bias mode a b → Hold code bias mode a b
  by_default : {code bias mode a b n : ℕ} → Means code a b n → Allowed code bias mode 0 n → Hold code bias mode a b

-- An SDA's type and parameters: field type in byte 3, then eight bytes, of which 2 and 3 are the bias indicator, 5 the mode, 6 and 7 the size.
pub record GoodParameters (d : List ℕ) (j : ℕ) : Type 0 where
  pub zeros : (byte_of d j 4 ≡ 0) × (byte_of d j 5 ≡ 0) × (byte_of d j 8 ≡ 0)
  pub hold : Hold (byte_of d j 3) (two_bytes d (place d j + 6)) (byte_of d j 9) (byte_of d j 10) (byte_of d j 11)

-- THE ROWS that speak of triplet j.

-- 2, Torn triplet: LENGTH below 2 or past the end.
pub data Torn (d : List ℕ) (j : ℕ) : Type 0 where
  below_2 : length_byte d j < 2 → Torn d j
  past_the_end : length d < place d j + length_byte d j → Torn d j

-- 3, Unknown construct: type not carried.
pub record UnknownConstruct (d : List ℕ) (j : ℕ) : Type 0 where
  pub not_carried : OneOf (byte_of d j 1) (sda_byte ∷ rlo_byte ∷ gda_byte ∷ isd_byte ∷ cpt_byte ∷ []) → ⊥

-- 4, Out of sequence: CPT not after RLO, GDA or CPT; ISD not first.
pub data OutOfSequence (d : List ℕ) (j : ℕ) : Type 0 where
  cpt_first : Is d cpt_byte j → j ≡ 0 → OutOfSequence d j
  cpt_after : {i : ℕ} → Is d cpt_byte j → j ≡ suc i → (OneOf (byte_of d i 1) (rlo_byte ∷ gda_byte ∷ cpt_byte ∷ []) → ⊥) → OutOfSequence d j
  isd_later : Is d isd_byte j → j ≢ 0 → OutOfSequence d j

-- 5, Bad length: LENGTH against the forms, which are 12 plus at most three extents; 3 plus a positive multiple of 3; 5 or 6.
pub data Form : (construct size : ℕ) → Type 0 where
  sda : {n : ℕ} → OneOf n (12 ∷ 14 ∷ 16 ∷ 18 ∷ []) → Form sda_byte n
  of_groups : {c : ℕ} (k : ℕ) → OneOf c (rlo_byte ∷ gda_byte ∷ cpt_byte ∷ []) → Form c (6 + 3 * k)
  isd : {n : ℕ} → OneOf n (5 ∷ 6 ∷ []) → Form isd_byte n

pub record BadLength (d : List ℕ) (j : ℕ) : Type 0 where
  pub no_form : Form (byte_of d j 1) (length_byte d j) → ⊥

-- 6, Bad parameter: an SDA's, RLO's or GDA's own id 0, type without rule, parameters, extent 0, CPT or ISD contents.
pub data BadParameter (d : List ℕ) (j : ℕ) : Type 0 where
  own_id_0 : Describes d 0 j → BadParameter d j
  parameters : Is d sda_byte j → (GoodParameters d j → ⊥) → BadParameter d j
  extent_0 : (k : ℕ) → Is d sda_byte j → 14 + 2 * k ≤ length_byte d j → extent d j k ≡ 0 → BadParameter d j
  reserved : Is d cpt_byte j → byte_of d j 2 ≢ 0 → BadParameter d j
  isd_id : Is d isd_byte j → byte_of d j 2 ≢ 0 → BadParameter d j
  subset : Is d isd_byte j → (OneOf (two_bytes d (place d j + 3)) (0x0000 ∷ 0x0100 ∷ []) → ⊥) → BadParameter d j
  version : Is d isd_byte j → 6 ≤ length_byte d j → byte_of d j 5 ≢ 1 → BadParameter d j

-- 7, Name taken: id described before.
pub data NameTaken (d : List ℕ) (j : ℕ) : Type 0 where
  taken_by : {id q : ℕ} → Describes d id j → q < j → Describes d id q → NameTaken d j

-- 8, Missing reference: id not described yet.
pub data MissingReference (d : List ℕ) (j k : ℕ) : Type 0 where
  missing : {r : ℕ} → InRow d r j → HasGroup d j k → ((q : ℕ) → Refers d r (reference d j k) q → ⊥) → MissingReference d j k

-- 9, Not carried: in an RLO repetition 0, but where the group's bytes end the descriptor; elements taken above 0 over an RLO, a GDA or an SDA without
-- extents.
pub data NotCarried (d : List ℕ) (j k : ℕ) : Type 0 where
  repetition_0 : {r : ℕ} → InRow d r j → Is d rlo_byte r → HasGroup d j k → factor d j k ≡ 0 → (EndsDescriptor d j k → ⊥) → NotCarried d j k
  over_row : {r q : ℕ} → InRow d r j → Is d rlo_byte r → HasGroup d j k → 0 < taken d j k → Refers d r (reference d j k) q → HasGroups d q
      → NotCarried d j k
  over_single : {r q : ℕ} → InRow d r j → Is d rlo_byte r → HasGroup d j k → 0 < taken d j k → Refers d r (reference d j k) q → Is d sda_byte q
      → length_byte d q ≡ 12 → NotCarried d j k

-- 21, Column misfit (Q-4): in a GDA the SDA has extents, the id is no SDA's, or the length doesn't suit. A length of zero replaces nothing (000, section
-- 4.3.1.4).
pub data ColumnMisfit (d : List ℕ) (j k : ℕ) : Type 0 where
  no_sda : {r q : ℕ} → InRow d r j → Is d gda_byte r → HasGroup d j k → Refers d r (reference d j k) q → (Is d sda_byte q → ⊥) → ColumnMisfit d j k
  has_extents : {r q : ℕ} → InRow d r j → Is d gda_byte r → HasGroup d j k → Refers d r (reference d j k) q → Is d sda_byte q → length_byte d q ≢ 12
      → ColumnMisfit d j k
  bad_length : {r q : ℕ} → InRow d r j → Is d gda_byte r → HasGroup d j k → Refers d r (reference d j k) q → Is d sda_byte q → 0 < F (byte1 d j k) (byte2 d j k)
      → (Suits (byte_of d q 3) (byte1 d j k) (byte2 d j k) → ⊥) → ColumnMisfit d j k

-- 22, Endless (Q-5): every item of the repeated layout is an X'01' that isn't nullable and has F 0.
pub data NoData : List Field → Type 0 where
  none_left : NoData []
  one_more : {f : Field} {fs : List Field} → f.code ≡ 0x01 → field_length f ≡ 0 → NoData fs → NoData (f ∷ fs)

pub data Endless (d : List ℕ) (j k : ℕ) : Type 0 where
  takes_no_data : {r : ℕ} {rows : List Field} → InRow d r j → Is d rlo_byte r → HasGroup d j k → EndsDescriptor d j k → factor d j k ≡ 0 → repeated d ≡ some rows
      → NoData rows → Endless d j k

-- 10, Too many items: the SDA's count, or the RLO's or GDA's count up to this group, over 4,096.
pub data TooManyItems (d : List ℕ) (j : ℕ) : Type 0 where
  of_sda : {n : ℕ} → Is d sda_byte j → Counts d j n → 4096 < n → TooManyItems d j

pub data TooManyUpTo (d : List ℕ) (j k : ℕ) : Type 0 where
  of_row : {r n : ℕ} → UpTo d r j (suc k) n → 4096 < n → TooManyUpTo d j k

-- The reasons of triplet j: 8, 9, 21, 22 and 10 belong to its group k, counted from 1, the others to the triplet itself, counted 0. A group's turn has 8,
-- then 9 in an RLO or 21 in a GDA, then 22, then 10.
pub data OfTriplet (d : List ℕ) (j : ℕ) : (group step number : ℕ) → Type 0 where
  torn : Torn d j → OfTriplet d j 0 2 2
  unknown_construct : UnknownConstruct d j → OfTriplet d j 0 3 3
  out_of_sequence : OutOfSequence d j → OfTriplet d j 0 4 4
  bad_length : BadLength d j → OfTriplet d j 0 5 5
  bad_parameter : BadParameter d j → OfTriplet d j 0 6 6
  name_taken : NameTaken d j → OfTriplet d j 0 7 7
  too_many_items : TooManyItems d j → OfTriplet d j 0 10 10
  missing_reference : {k : ℕ} → MissingReference d j k → OfTriplet d j (suc k) 8 8
  not_carried : {k : ℕ} → NotCarried d j k → OfTriplet d j (suc k) 9 9
  column_misfit : {k : ℕ} → ColumnMisfit d j k → OfTriplet d j (suc k) 9 21
  too_many_up_to : {k : ℕ} → TooManyUpTo d j k → OfTriplet d j (suc k) 11 10

-- THE ROWS that speak of an item of the field f, whose bytes and all behind them are s. Each belongs to a step of measuring: 0 null indicator, 1 L
-- bytes, 2 L's range, 3 body. What stands behind a bad indicator is judged by the other rows too, but at a later step.

-- A field's type code is c or its nullable form.
abbrev pub HasType : Field → (c : ℕ) → Type 0
HasType f c = OneOf f.code (c ∷ (c + 0x80) ∷ [])

-- The bytes behind any null indicator, of an item that is not null.
pub data Behind (f : Field) : List ℕ → List ℕ → Type 0 where
  no_indicator : {s : List ℕ} → f.code < 0x80 → Behind f s s
  high_bit_0 : {b : ℕ} {s : List ℕ} → 0x80 ≤ f.code → b < 0x80 → Behind f (b ∷ s) s

-- L has w bytes; where they are there, it is n, unsigned.
pub data L (f : Field) : (w : ℕ) → List ℕ → (n : ℕ) → Type 0 where
  of_two : {a b : ℕ} {s : List ℕ} → HasType f 0x02 → L f 2 (a ∷ b ∷ s) (a * 256 + b)
  of_one : {a : ℕ} {s : List ℕ} → HasType f 0x07 → L f 1 (a ∷ s) a

-- So many bytes follow an L of n.
pub data Sent (f : Field) (n : ℕ) : ℕ → Type 0 where
  no_limit : field_length f ≡ 0 → Sent f n n
  value_only : 0 < field_length f → f.mode ≡ 1 → Sent f n n
  reserved : 0 < field_length f → f.mode ≡ 0 → Sent f n (field_length f)

-- No byte among the first n is zero.
abbrev pub NoZero : (n : ℕ) → List ℕ → Type 0
NoZero n s = (i : ℕ) → i < n → byte s i ≢ 0

-- 13, Short data: the item's next needed byte is missing. In mode 0 all bytes of an X'03' item are needed, whether a zero byte is among them or not.
pub data ShortData (f : Field) : (step : ℕ) → List ℕ → Type 0 where
  indicator : 0x80 ≤ f.code → ShortData f 0 []
  length_two : {s v : List ℕ} → Behind f s v → HasType f 0x02 → length v < 2 → ShortData f 1 s
  length_one : {s v : List ℕ} → Behind f s v → HasType f 0x07 → length v < 1 → ShortData f 1 s
  counted : {s v : List ℕ} {w n m : ℕ} → Behind f s v → L f w v n → Sent f n m → length v < w + m → ShortData f 3 s
  fixed : {s v : List ℕ} (c : ℕ) → Behind f s v → HasType f c → OneOf c (0x01 ∷ 0x23 ∷ 0x24 ∷ 0x30 ∷ 0x40 ∷ 0x47 ∷ 0x48 ∷ []) → length v < field_length f
      → ShortData f 3 s
  no_limit : {s v : List ℕ} → Behind f s v → HasType f 0x03 → field_length f ≡ 0 → NoZero (length v) v → ShortData f 3 s
  not_yet : {s v : List ℕ} → Behind f s v → HasType f 0x03 → 0 < field_length f → f.mode ≡ 1 → length v < field_length f + 1 → NoZero (length v) v
      → ShortData f 3 s
  reserved : {s v : List ℕ} → Behind f s v → HasType f 0x03 → 0 < field_length f → f.mode ≡ 0 → length v < field_length f + 1 → ShortData f 3 s

-- 14, Bad count: L negative or, with F above 0, over F.
pub data BadCount (f : Field) : List ℕ → Type 0 where
  negative : {s v : List ℕ} {n : ℕ} → Behind f s v → L f 2 v n → 0x8000 ≤ n → BadCount f s
  over_F : {s v : List ℕ} {w n : ℕ} → Behind f s v → L f w v n → 0 < field_length f → field_length f < n → BadCount f s

-- 15, No end: F + 1 bytes present, none zero (X'03', F above 0).
pub data NoEnd (f : Field) : List ℕ → Type 0 where
  none_zero : {s v : List ℕ} → Behind f s v → HasType f 0x03 → 0 < field_length f → field_length f + 1 ≤ length v → NoZero (field_length f + 1) v
      → NoEnd f s

-- 24, Bad indicator (Q-8): a null indicator of X'01' to X'7F'.
pub data BadIndicator (f : Field) : List ℕ → Type 0 where
  from_01_to_7f : {b : ℕ} {s : List ℕ} → 0x80 ≤ f.code → 0x01 ≤ b → b ≤ 0x7F → BadIndicator f (b ∷ s)

pub data OfItem (f : Field) (s : List ℕ) : (step number : ℕ) → Type 0 where
  short_data : {step : ℕ} → ShortData f step s → OfItem f s step 13
  bad_indicator : BadIndicator f s → OfItem f s 0 24
  bad_count : BadCount f s → OfItem f s 2 14
  no_end : NoEnd f s → OfItem f s 3 15

-- Item k of the fields fs, of the field f, starts at q: the items before it, by the standard's account, take the first q bytes, and `rest` follows.
pub record StartsAt (fs : List Field) (s : List ℕ) (k : ℕ) (f : Field) (q : ℕ) (rest : List ℕ) : Type 0 where
  pub before : List Field
  pub after : List Field
  pub fields : fs ≡ before ++ (f ∷ after)
  pub number : length before ≡ k
  pub items : List Parts
  pub bytes : List ℕ
  pub block : Block before items bytes
  pub split : s ≡ bytes ++ rest
  pub place_is : length bytes ≡ q

-- The reasons of the fields and the data of a block without rows to the end. 16, Surplus: bytes after the last item.
pub data OfItems (fs : List Field) (s : List ℕ) : (turn : List ℕ) → (number place : ℕ) → Type 0 where
  item : {k step m q : ℕ} {f : Field} {rest : List ℕ} → StartsAt fs s k f q rest → OfItem f rest step m → OfItems fs s (5 ∷ k ∷ step ∷ []) m q
  surplus : {xs : List Parts} {bytes : List ℕ} (rest : List ℕ) → Block fs xs bytes → s ≡ bytes ++ rest → 0 < length rest
      → OfItems fs s (6 ∷ []) 16 (length bytes)

-- With rows to the end (Q-5): the fields before them and those of j passes over the repeated layout.
abbrev pub with_passes : (before rows : List Field) → (j : ℕ) → List Field
with_passes before rows j = before ++ repeat j rows

-- The walk comes to item k: no number of whole passes, of k items or fewer, uses up the data.
abbrev pub ComesTo : (before rows : List Field) → List ℕ → (k : ℕ) → Type 0
ComesTo before rows s k = (j : ℕ) (xs : List Parts) → Block (with_passes before rows j) xs s → k < length (with_passes before rows j)

-- 10, Too many items: the 4,097th, before it is measured. There is no 16.
pub data OfRows (before rows : List Field) (s : List ℕ) : (turn : List ℕ) → (number place : ℕ) → Type 0 where
  item : {k step m q : ℕ} {f : Field} {rest : List ℕ} (j : ℕ) → StartsAt (with_passes before rows j) s k f q rest → ComesTo before rows s k → k < 4096
      → OfItem f rest step m → OfRows before rows s (5 ∷ k ∷ step ∷ []) m q
  too_many : {q : ℕ} {f : Field} {rest : List ℕ} (j : ℕ) → StartsAt (with_passes before rows j) s 4096 f q rest → ComesTo before rows s 4096
      → OfRows before rows s (5 ∷ 4096 ∷ 0 ∷ []) 10 q

-- Some number of passes is the whole of the data: so many items.
pub data Uses (before rows : List Field) (s : List ℕ) : (n : ℕ) → Type 0 where
  whole_passes : {xs : List Parts} (j : ℕ) → Block (with_passes before rows j) xs s → Uses before rows s (length (with_passes before rows j))

-- The unfolding of a descriptor: with rows to the end, with some number of passes.
pub data Unfolds (d : List ℕ) : List Field → Type 0 where
  as_it_is : repeated d ≡ none → Unfolds d (unfolded d)
  and_passes : {rows : List Field} (j : ℕ) → repeated d ≡ some rows → Unfolds d (with_passes (unfolded d) rows j)

-- THE CALLS: each reason with its turn in 01's order, its number and its place. The order is 1; triplets left to right, each by rising number, with 8, 9 or
-- 21, 22, 10 taken group by group; 11; 12 (list call only); then items in order, each by its steps; 16; with rows to the end 12 here; 17; 18; 20 or 23.
pub data OfDescriptor (d : List ℕ) : (turn : List ℕ) → (number place : ℕ) → Type 0 where
  -- 1, Oversize: the descriptor over its limit
  oversize : 4096 < length d → OfDescriptor d (1 ∷ []) 1 0
  -- 2 to 10, 21 and 22, at the triplet
  triplet : {j g step m : ℕ} → There d j → OfTriplet d j g step m → OfDescriptor d (2 ∷ j ∷ g ∷ step ∷ []) m (place d j)
  endless : {j k : ℕ} → There d j → Endless d j k → OfDescriptor d (2 ∷ j ∷ suc k ∷ 10 ∷ []) 22 (place d j)
  -- 11, Nothing described: no SDA, RLO or GDA
  nothing_described : ((id j : ℕ) → Describes d id j → ⊥) → OfDescriptor d (3 ∷ []) 11 (length d)

-- The reasons of a descriptor's data: of the items of its unfolding, or with rows to the end of these too.
pub data OfData (d s : List ℕ) : (turn : List ℕ) → (number place : ℕ) → Type 0 where
  items : {t : List ℕ} {m p : ℕ} → repeated d ≡ none → OfItems (unfolded d) s t m p → OfData d s t m p
  rows : {t : List ℕ} {m p : ℕ} {layout : List Field} → repeated d ≡ some layout → OfRows (unfolded d) layout s t m p → OfData d s t m p

-- A descriptor with data.
pub data OfBlock (d s : List ℕ) : (turn : List ℕ) → (number place : ℕ) → Type 0 where
  descriptor : {t : List ℕ} {m p : ℕ} → OfDescriptor d t m p → OfBlock d s t m p
  -- 1, Oversize: the data over its limit
  oversize : 32768 < length s → OfBlock d s (1 ∷ []) 1 0
  data_of : {t : List ℕ} {m p : ℕ} → OfData d s t m p → OfBlock d s t m p

-- The list call, with a list of so many entries.
pub data OfList (d s : List ℕ) (entries : ℕ) : (turn : List ℕ) → (number place : ℕ) → Type 0 where
  block : {t : List ℕ} {m p : ℕ} → OfBlock d s t m p → OfList d s entries t m p
  -- 12, Small list: under 2 + 2n entries for n items
  small_list : repeated d ≡ none → entries < 2 + 2 * length (unfolded d) → OfList d s entries (4 ∷ []) 12 0
  small_for_rows : {rows : List Field} {n : ℕ} → repeated d ≡ some rows → Uses (unfolded d) rows s n → entries < 2 + 2 * n
      → OfList d s entries (7 ∷ []) 12 0

-- The state call, and lending, for item k.
pub data OfState (d s : List ℕ) (k : ℕ) : (turn : List ℕ) → (number place : ℕ) → Type 0 where
  block : {t : List ℕ} {m p : ℕ} → OfBlock d s t m p → OfState d s k t m p
  -- 17, No such item: item number n or more
  no_such_item : repeated d ≡ none → length (unfolded d) ≤ k → OfState d s k (7 ∷ []) 17 0
  not_in_rows : {rows : List Field} {n : ℕ} → repeated d ≡ some rows → Uses (unfolded d) rows s n → n ≤ k → OfState d s k (7 ∷ []) 17 0

-- The whole-number read of item k. 18, Wrong kind: of another type, null or not.
pub data OfWholeNumber (d s : List ℕ) (k : ℕ) : (turn : List ℕ) → (number place : ℕ) → Type 0 where
  state : {t : List ℕ} {m p : ℕ} → OfState d s k t m p → OfWholeNumber d s k t m p
  wrong_kind : {fs : List Field} {q : ℕ} {f : Field} {rest : List ℕ} → Unfolds d fs → StartsAt fs s k f q rest → (HasType f 0x23 → ⊥)
      → (HasType f 0x24 → ⊥) → OfWholeNumber d s k (8 ∷ []) 18 q

-- 20, Bad digit (Q-1): in the half-bytes of a value of p digits, two to a byte, an unused one that is not zero, a digit above 9, or a sign below A.
abbrev pub half : List ℕ → (i : ℕ) → ℕ
half v i = byte (half_bytes v) i

pub data BadDigit (p : ℕ) (v : List ℕ) : Type 0 where
  unused : Unused p 1 → half v 0 ≢ 0 → BadDigit p v
  digit : {u : ℕ} (i : ℕ) → Unused p u → i < p → 9 < half v (u + i) → BadDigit p v
  sign : {u : ℕ} → Unused p u → half v (u + p) < 0xA → BadDigit p v

-- The read of a packed item k. 18, Wrong kind: of another type, null or not. Then 20, of a value alone.
pub data OfPacked (d s : List ℕ) (k : ℕ) : (turn : List ℕ) → (number place : ℕ) → Type 0 where
  state : {t : List ℕ} {m p : ℕ} → OfState d s k t m p → OfPacked d s k t m p
  wrong_kind : {fs : List Field} {q : ℕ} {f : Field} {rest : List ℕ} → Unfolds d fs → StartsAt fs s k f q rest → (HasType f 0x30 → ⊥)
      → OfPacked d s k (8 ∷ []) 18 q
  bad_digit : {fs : List Field} {q p fraction : ℕ} {f : Field} {rest : List ℕ} {x : Parts} → Unfolds d fs → StartsAt fs s k f q rest → f.size ≡ digits p fraction → Begins f rest x
      → x.is_null ≡ false → BadDigit p x.value → OfPacked d s k (9 ∷ []) 20 q

-- Q-7: the fields whose value is read: X'23' and X'24'; X'40' of 4 or 8 bytes; X'47' and X'48' with bias indicator 0.
pub data Numeric (f : Field) : Type 0 where
  whole_number_row : HasType f 0x23 → Numeric f
  reversed_whole_number : HasType f 0x24 → Numeric f
  hexadecimal_float : HasType f 0x40 → OneOf (field_length f) (4 ∷ 8 ∷ []) → Numeric f
  reversed_float_row : HasType f 0x47 → f.bias ≡ 0 → Numeric f
  float : HasType f 0x48 → f.bias ≡ 0 → Numeric f

-- The bits of a float's value, as one number.
pub data Bits (f : Field) (v : List ℕ) : (bits : ℕ) → Type 0 where
  as_sent : HasType f 0x40 ⊎ HasType f 0x48 → Bits f v (big v)
  byte_reversed : HasType f 0x47 → Bits f v (big (reverse v))

-- A number has more than 53 significant bits: it is no number below 2 to the 53 times a power of two.
abbrev pub Over53 : ℕ → Type 0
Over53 t = (q r : ℕ) → t ≡ q * 2 ^ r → 2 ^ 53 ≤ q

-- 23, No exact float: a binary characteristic above 254 in 4 bytes or above 2046 in 8; or an X'40' of 8 bytes whose fraction has over 53 significant bits.
pub data NoExactFloat (f : Field) (v : List ℕ) : Type 0 where
  above_254 : {bits : ℕ} → HasType f 0x47 ⊎ HasType f 0x48 → field_length f ≡ 4 → Bits f v bits → 254 < bits % 2 ^ 31 / 2 ^ 23 → NoExactFloat f v
  above_2046 : {bits : ℕ} → HasType f 0x47 ⊎ HasType f 0x48 → field_length f ≡ 8 → Bits f v bits → 2046 < bits % 2 ^ 63 / 2 ^ 52 → NoExactFloat f v
  over_53 : {bits : ℕ} → HasType f 0x40 → field_length f ≡ 8 → Bits f v bits → Over53 (bits % 2 ^ 56) → NoExactFloat f v

-- The value of item k. 18, Wrong kind: of a field whose value is not read, null or not. Then 23, of a value alone.
pub data OfValue (d s : List ℕ) (k : ℕ) : (turn : List ℕ) → (number place : ℕ) → Type 0 where
  state : {t : List ℕ} {m p : ℕ} → OfState d s k t m p → OfValue d s k t m p
  wrong_kind : {fs : List Field} {q : ℕ} {f : Field} {rest : List ℕ} → Unfolds d fs → StartsAt fs s k f q rest → (Numeric f → ⊥) → OfValue d s k (8 ∷ []) 18 q
  no_exact_float : {fs : List Field} {q : ℕ} {f : Field} {rest : List ℕ} {x : Parts} → Unfolds d fs → StartsAt fs s k f q rest → Numeric f → Begins f rest x
      → x.is_null ≡ false → NoExactFloat f x.value → OfValue d s k (9 ∷ []) 23 q

-- The dump program's file: descriptor size and data size, four bytes each, most significant first, descriptor, data. 19, Bad file: it doesn't fit its
-- sizes; under 8 bytes before a size over its limit, another length after it.
abbrev pub four_bytes : List ℕ → (place : ℕ) → ℕ
four_bytes s p = two_bytes s p * 65536 + two_bytes s (p + 2)

abbrev pub file_descriptor : List ℕ → List ℕ
file_descriptor f = take (four_bytes f 0) (drop 8 f)

abbrev pub file_data : List ℕ → List ℕ
file_data f = drop (8 + four_bytes f 0) f

pub data OfFile (f : List ℕ) : (turn : List ℕ) → (number place : ℕ) → Type 0 where
  under_8 : length f < 8 → OfFile f (0 ∷ 0 ∷ []) 19 0
  oversize : (4096 < four_bytes f 0) ⊎ (32768 < four_bytes f 4) → OfFile f (0 ∷ 1 ∷ []) 1 0
  other_length : length f ≢ 8 + four_bytes f 0 + four_bytes f 4 → OfFile f (0 ∷ 2 ∷ []) 19 0
  block : {t : List ℕ} {m p : ℕ} → OfBlock (file_descriptor f) (file_data f) t m p → OfFile f t m p

-- A turn comes earlier by the first number in which it differs.
pub data Earlier : List ℕ → List ℕ → Type 0 where
  here : {a b : ℕ} {t u : List ℕ} → a < b → Earlier (a ∷ t) (b ∷ u)
  further : {a : ℕ} {t u : List ℕ} → Earlier t u → Earlier (a ∷ t) (a ∷ u)

-- m at p is the first of the reasons R: every other one has a later turn.
pub record First (R : List ℕ → ℕ → ℕ → Type 0) (m p : ℕ) : Type 0 where
  pub turn : List ℕ
  pub reason : R turn m p
  pub others_later : (t : List ℕ) (n q : ℕ) → R t n q → Earlier turn t ⊎ ((t ≡ turn) × (n ≡ m) × (q ≡ p))

-- None of the reasons R holds.
abbrev pub None : (R : List ℕ → ℕ → ℕ → Type 0) → Type 0
None R = (t : List ℕ) (m p : ℕ) → R t m p → ⊥
