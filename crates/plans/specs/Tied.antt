-- What the check establishes of an accepted descriptor for writing its plan: tables with a position, a size and an entry for each described id,
-- tied to the descriptor's bytes by equations, one for each id.
use Rattle.std.specs.Prelude.{ℕ, suc, ◌+◌, ◌-◌, ◌/◌, ◌%◌, ◌≤◌, ◌<◌, ◌≡◌, Bool, true, false, List, [], ◌∷◌, ltb, eqb, length, get_or, drop, if◌then◌else◌}
use Rattle.std.proofs.Math.Option.{some}
use Rattle.fdoca.specs.Basics.{product, lookup}
use Rattle.fdoca.specs.FieldType.{type_of}
use Rattle.fdoca.specs.Triplet.{triplets, Kind, rlo, gda, Group, taken}
use Rattle.fdoca.specs.Item.{Field}
use Rattle.fdoca.specs.Check.{good_column}
use Rattle.fdoca.specs.Unfolding.{Described, array, row, fields_referred, closed, add_fields, unfold_triplets, start}
use Rattle.fields.specs.Plan.{entry_of, Proper}
use Rattle.tables.specs.Lists.{Lists}

-- All described ids of a descriptor, and the list that an id stands for.
unfoldable pub described_by : List ℕ → List (ℕ × Described)
described_by d = closed (unfold_triplets start (triplets d))

unfoldable pub list_of : List ℕ → (id : ℕ) → List Field
list_of d id = fields_referred 0 (lookup id (described_by d))

-- The product of the lower extents, by which elements taken is multiplied; 0 without extents.
abbrev pub lower_of : List ℕ → ℕ
lower_of [] = 0
lower_of (x ∷ xs) = product xs

-- The groups in the bytes behind the head of an RLO or a GDA, n of the bytes the triplet's own. Three bytes at a time: a group while bytes of the triplet are left,
-- and behind its end the head of a CPT, whose other bytes are groups again, or the end of the row.
unfoldable pub groups_in : ℕ → List ℕ → List Group
groups_in n [] = []
groups_in n (a ∷ []) = []
groups_in n (a ∷ b ∷ []) = []
groups_in n (a ∷ b ∷ c ∷ rest) =
    if ltb 0 n then record { ref = a; byte1 = b; byte2 = c } ∷ groups_in (n - 3) rest
    else if eqb b 0x7F then groups_in (a - 3) rest
    else []

-- The kind of a construct type, and of the triplet at p, an RLO or a GDA.
unfoldable pub kind_of : (type : ℕ) → Kind
kind_of type = if eqb type 0x75 then gda else rlo

abbrev pub kind_at : List ℕ → (p : ℕ) → Kind
kind_at d p = kind_of (get_or d (p + 1) 0)

-- The groups of the RLO or GDA at p, and of the CPTs right behind it.
unfoldable pub groups_at : List ℕ → (p : ℕ) → List Group
groups_at d p = groups_in (get_or d p 0 - 3) (drop (p + 3) d)

-- The list that the RLO or GDA at p and its CPTs make.
unfoldable pub row_list : List ℕ → (p : ℕ) → List Field
row_list d p = add_fields (kind_at d p) (described_by d) [] (groups_at d p)

abbrev pub case_of : Bool → Type 0 → Type 0 → Type 0
case_of true a b = a
case_of false a b = b

-- The same bytes: each group has the property P, and the triplets are whole.
unfoldable pub Groups : (Group → Type 0) → ℕ → List ℕ → Type 0
Groups P n [] = n ≡ 0
Groups P n (a ∷ []) = n ≡ 0
Groups P n (a ∷ b ∷ []) = n ≡ 0
Groups P n (a ∷ b ∷ c ∷ rest) =
    case_of (ltb 0 n)
    (P (record { ref = a; byte1 = b; byte2 = c }) × Groups P (n - 3) rest)
    (case_of (eqb b 0x7F) (Groups P (a - 3) rest) (Unit {0}))

-- Elements taken can stand for the highest extent: 0 over anything, another number over an SDA with extents.
pub data Takes : ℕ → Described → Type 0 where
  all : {D : Described} → Takes 0 D
  some_of : {k x : ℕ} {f : Field} {xs : List ℕ} → Takes (suc k) (array f (x ∷ xs))

-- A group makes a list of what it refers to: in an RLO so many times as the factor says, in a GDA of an SDA without extents, with a length that is good
-- for its type.
pub data Makes : Kind → Group → Described → Type 0 where
  of_row : {g : Group} {D : Described} → Takes (taken g) D → Makes rlo g D
  of_column : {g : Group} {f : Field} → good_column f.code g.byte1 g.byte2 ≡ true → Makes gda g (array f [])

-- A group of the row at p refers to an id whose triplet stands before p. `s` has the positions.
pub record Refers (kind : Kind) (d s : List ℕ) (p : ℕ) (g : Group) : Type 0 where
  pub to : Described
  pub known : lookup g.ref (described_by d) ≡ some to
  pub back : get_or s g.ref 0 < p
  pub id_fits : g.ref < 256
  pub makes : Makes kind g to

-- The triplets at p, an RLO or a GDA with its CPTs, make the list l.
pub record RowAt (d s : List ℕ) (p : ℕ) (l : List Field) : Type 0 where
  pub head : p + 3 ≤ length d
  pub fields : l ≡ row_list d p
  pub groups : Groups (Refers (kind_at d p) d s p) (get_or d p 0 - 3) (drop (p + 3) d)

-- What is kept of an id that an SDA describes: in `e` its plan entry, in `z` its count, which is not 0, and, 65,536 times,
-- the product of its lower extents.
pub record SdaKept (z e : List ℕ) (i : ℕ) (f : Field) (xs : List ℕ) : Type 0 where
  pub entry : get_or e i 0 ≡ entry_of f
  pub marked : 0 < get_or e i 0
  pub proper : Proper f
  pub typed : type_of f.code ≡ some f.type
  pub count : get_or z i 0 % 65536 ≡ product xs
  pub lower : get_or z i 0 / 65536 ≡ lower_of xs
  pub some_item : 0 < product xs

-- What is kept of an id that an RLO or a GDA describes: the entry 0, and in `s` the position of a row that makes its list.
pub record RowKept (d s e : List ℕ) (i : ℕ) (l : List Field) : Type 0 where
  pub unmarked : get_or e i 0 ≡ 0
  pub made : RowAt d s (get_or s i 0) l

abbrev pub Kept : (d s z e : List ℕ) → ℕ → Described → Type 0
Kept d s z e i (array f xs) = SdaKept z e i f xs
Kept d s z e i (row l) = RowKept d s e i l

pub record Tied (d s z e : List ℕ) : Type 0 where
  pub small : length d ≤ 4096
  pub each : (i : ℕ) (D : Described) → lookup i (described_by d) ≡ some D → Kept d s z e i D

-- The same, of the tables as one value.
abbrev pub TiedTo : List ℕ → Lists → Type 0
TiedTo d t = Tied d t.starts t.sizes t.entries

-- An id is described.
pub record Known (d : List ℕ) (id : ℕ) : Type 0 where
  pub what : Described
  pub known : lookup id (described_by d) ≡ some what
