-- The unfolding of an accepted descriptor (document 01, "Unfolding and walk"; document 02, Q-4 and Q-5): the list of its fields, made from its bytes,
-- and the repeated layout of rows to the end.
-- The cases marked * occur in no accepted descriptor: theorem `no_star` of proofs/Stars.
use Rattle.std.specs.Prelude.{ℕ, zero, suc, ◌-◌, ◌*◌, Bool, true, ◌&&◌, List, [], ◌∷◌, ◌++◌, eqb, length, replicate, get_or, if◌then◌else◌}
use Rattle.std.proofs.Math.Option.{Option, none, some}
use Rattle.fdoca.specs.Basics.{lookup, product, repeat}
use Rattle.fdoca.specs.FieldType.{FieldType, type_of, rule_of, size_replaced}
use Rattle.fdoca.specs.Triplet.{Triplet, torn, triplet, triplets, Kind, rlo, gda, Construct, sda, isd, cpt, grouped, construct_of, id_of, code_of, parameters_of, mode_of, bias_of, size_in, extents_of, Group, taken, factor, groups_of}
use Rattle.fdoca.specs.Item.{Field, with_size, field_length}

-- What an id describes: an SDA's field and its extents, or the list of an RLO or a GDA.
pub data Described : Type 0 where
  array : Field → List ℕ → Described
  row : List Field → Described

-- An SDA's list is its field, as often as the product of its extents.
abbrev pub fields_of : Described → List Field
fields_of (array f xs) = replicate (product xs) f
fields_of (row l) = l

-- The list that a group of an RLO adds once: elements taken above 0 stands for the SDA's highest extent.
abbrev pub fields_taken : ℕ → Described → List Field
fields_taken zero d = fields_of d
fields_taken (suc k) (array f (x ∷ xs)) = replicate (suc k * product xs) f
fields_taken (suc k) (array f []) = f ∷ []  -- *
fields_taken (suc k) (row l) = l  -- *

-- The described ids, the last first, and the RLO or GDA that a CPT may continue: its id, its list so far, and its kind.
pub record Layouts : Type 0 where
  pub described : List (ℕ × Described)
  pub current : Option (ℕ × List Field × Kind)

abbrev pub close_row : List (ℕ × Described) → Option (ℕ × List Field × Kind) → List (ℕ × Described)
close_row ds none = ds
close_row ds (some r) = (r.0, row r.1) ∷ ds

-- An RLO or GDA counts as described after its last CPT.
abbrev pub closed : Layouts → List (ℕ × Described)
closed st = close_row st.described st.current

abbrev pub fields_referred : ℕ → Option Described → List Field
fields_referred k none = []  -- *
fields_referred k (some d) = fields_taken k d

-- An SDA's field, with the size that holds where a group of a GDA gives the length.
abbrev pub column : (byte6 byte7 : ℕ) → Field → Field
column byte6 byte7 f = with_size (size_replaced (rule_of f.type) f.size byte6 byte7) f

-- What a group of a GDA adds: the one field of an SDA without extents.
abbrev pub column_referred : Group → Option Described → List Field
column_referred g (some (array f [])) = column g.byte1 g.byte2 f ∷ []
column_referred g (some (array f (x ∷ xs))) = []  -- *
column_referred g (some (row l)) = []  -- *
column_referred g none = []  -- *

-- A group's list: in an RLO that of the triplet referred to, as often as the factor; in a GDA one field.
abbrev pub fields_added : Kind → Group → Option Described → List Field
fields_added rlo g D = repeat (factor g) (fields_referred (taken g) D)
fields_added gda g D = column_referred g D

abbrev pub group_fields : Kind → List (ℕ × Described) → Group → List Field
group_fields kind ds g = fields_added kind g (lookup g.ref ds)

-- A list, with those of groups added to it.
unfoldable pub add_fields : Kind → List (ℕ × Described) → List Field → List Group → List Field
add_fields kind ds l [] = l
add_fields kind ds l (g ∷ gs) = add_fields kind ds (l ++ group_fields kind ds g) gs

abbrev pub field_of : FieldType → List ℕ → Field
field_of T t =
    let ps = parameters_of t in
    record { id = id_of t; code = code_of t; type = T; mode = mode_of ps; bias = bias_of ps; size = size_in (rule_of T) ps }

unfoldable pub unfold_sda : Option FieldType → Layouts → List ℕ → Layouts
unfold_sda none st t = st  -- *
unfold_sda (some T) st t = record { described = (id_of t, array (field_of T t) (extents_of t)) ∷ closed st; current = none }

-- The list of an RLO or a GDA starts empty.
unfoldable pub unfold_row : Kind → Layouts → List ℕ → Layouts
unfold_row kind st t = record { described = closed st; current = some (id_of t, add_fields kind (closed st) [] (groups_of t), kind) }

unfoldable pub unfold_cpt : Option (ℕ × List Field × Kind) → Layouts → List ℕ → Layouts
unfold_cpt none st t = st  -- *
unfold_cpt (some r) st t =
    record { described = st.described; current = some (r.0, add_fields r.2 st.described r.1 (groups_of t), r.2) }

unfoldable pub unfold_construct : Option Construct → Layouts → List ℕ → Layouts
unfold_construct none st t = st  -- *
unfold_construct (some sda) st t = unfold_sda (type_of (code_of t)) st t
unfold_construct (some (grouped kind)) st t = unfold_row kind st t
unfold_construct (some isd) st t = st
unfold_construct (some cpt) st t = unfold_cpt st.current st t

unfoldable pub unfold_triplet : Layouts → Triplet → Layouts
unfold_triplet st (torn p) = st  -- *
unfold_triplet st (triplet p t) = unfold_construct (construct_of t) st t

unfoldable pub unfold_triplets : Layouts → List Triplet → Layouts
unfold_triplets st [] = st
unfold_triplets st (t ∷ ts) = unfold_triplets (unfold_triplet st t) ts

abbrev pub start : Layouts
start = record { described = []; current = none }

-- The last SDA's, RLO's or GDA's list is the unfolding.
abbrev pub last_fields : List (ℕ × Described) → List Field
last_fields [] = []  -- *
last_fields (d ∷ ds) = fields_of d.1

unfoldable pub unfolded : List ℕ → List Field
unfolded d = last_fields (closed (unfold_triplets start (triplets d)))

-- Rows to the end (Q-5): the last group of an RLO, whose bytes end the descriptor, has repetition 0. It adds no field to the unfolding; the list of the
-- triplet that it refers to is the repeated layout.
abbrev pub last_group : List ℕ → Group
last_group d = record { ref = get_or d (length d - 3) 0; byte1 = get_or d (length d - 2) 0; byte2 = get_or d (length d - 1) 0 }

abbrev pub rows_of : Kind → List (ℕ × Described) → Group → Option (List Field)
rows_of rlo ds g = if eqb (factor g) 0 then some (fields_referred (taken g) (lookup g.ref ds)) else none
rows_of gda ds g = none

abbrev pub rows_at_end : Option (ℕ × List Field × Kind) → List (ℕ × Described) → Group → Option (List Field)
rows_at_end none ds g = none
rows_at_end (some r) ds g = rows_of r.2 ds g

-- The repeated layout, where there are rows to the end.
unfoldable pub repeated : List ℕ → Option (List Field)
repeated d =
    let st = unfold_triplets start (triplets d) in
    rows_at_end st.current st.described (last_group d)

-- Every item of a layout is an X'01' that is not nullable and has F 0.
abbrev pub endless : List Field → Bool
endless [] = true
endless (f ∷ fs) = eqb f.code 0x01 && eqb (field_length f) 0 && endless fs
