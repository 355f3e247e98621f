-- The check of a descriptor (document 01, "Numbers a caller can meet"; document 02, Q-4 and Q-5): the first reason to refuse it, or its item count.
use Rattle.std.specs.Prelude.{ℕ, zero, suc, ◌+◌, ◌*◌, ◌%◌, Bool, true, false, ◌&&◌, not, List, [], ◌∷◌, leb, ltb, eqb, length, get_or, if◌then◌else◌}
use Rattle.std.proofs.Math.Option.{Option, none, some}
use Rattle.fdoca.specs.Basics.{elem, lookup, is_some, is_empty, product, Result, refuse, ok, ◌>>=◌, ◌>>◌, reject, the}
use Rattle.fdoca.specs.FieldType.{FieldType, Rule, allows, replaces, suits, type_of, rule_of}
use Rattle.fdoca.specs.Triplet.{Triplet, torn, triplet, triplets, last_place, Kind, rlo, gda, Construct, sda, isd, cpt, grouped, construct_of, id_of, code_of, parameters_of, mode_of, size_in, bias_of, extents_of, Group, taken, factor, groups_of, subset_of, version_of}
use Rattle.fdoca.specs.Item.{Field}
use Rattle.fdoca.specs.Unfolding.{repeated, endless}

abbrev pub max_descriptor : ℕ
max_descriptor = 4096

abbrev pub max_items : ℕ
max_items = 4096

-- What the check keeps of a described id: an SDA's type code and extents, or the item count of an RLO or a GDA.
pub data Entry : Type 0 where
  array : (code : ℕ) → List ℕ → Entry
  row : ℕ → Entry

-- An SDA stands for as many items as the product of its extents.
abbrev pub count_of : Entry → ℕ
count_of (array code xs) = product xs
count_of (row n) = n

-- How many items a group of an RLO takes of an entry once. Elements taken 0 keeps it as it is; another number replaces the highest extent of an SDA
-- that has one.
abbrev pub count_taken : ℕ → Entry → Option ℕ
count_taken zero e = some (count_of e)
count_taken (suc k) (array code []) = none
count_taken (suc k) (array code (x ∷ xs)) = some (suc k * product xs)
count_taken (suc k) (row n) = none

-- Q-4: a length suits the type that a code stands for.
abbrev pub suits_type : Option FieldType → (byte6 byte7 : ℕ) → Bool
suits_type none byte6 byte7 = false
suits_type (some T) byte6 byte7 = suits (rule_of T) byte6 byte7

-- A length that replaces nothing is good, another one where it suits.
unfoldable pub good_column : (code byte6 byte7 : ℕ) → Bool
good_column code byte6 byte7 = if replaces byte6 byte7 then suits_type (type_of code) byte6 byte7 else true

-- A group of a GDA refers to an SDA without extents, and its length is good for that SDA's type.
abbrev pub fits : Group → Entry → Bool
fits g (array code []) = good_column code g.byte1 g.byte2
fits g (array code (x ∷ xs)) = false
fits g (row n) = false

-- The described ids, the last first, and the RLO or GDA that a CPT may continue: its id, its count so far, and its kind.
pub record State : Type 0 where
  pub described : List (ℕ × Entry)
  pub current : Option (ℕ × ℕ × Kind)

-- An RLO or GDA counts as described after its last CPT.
abbrev pub close_row : List (ℕ × Entry) → Option (ℕ × ℕ × Kind) → List (ℕ × Entry)
close_row es none = es
close_row es (some r) = (r.0, row r.1) ∷ es

abbrev pub closed : State → List (ℕ × Entry)
closed st = close_row st.described st.current

abbrev pub is_described : ℕ → List (ℕ × Entry) → Bool
is_described i es = is_some (lookup i es)

-- How many items a group adds, at its triplet's place p, with the entry that it refers to: in an RLO as many as it takes, repeated by the factor; in
-- a GDA one. The factor may be 0 where the group's bytes end the descriptor (Q-5): the group then adds nothing.
unfoldable pub count_added : Kind → (ends : Bool) → (p : ℕ) → Group → Entry → Result ℕ
count_added rlo ends p g e = do
  reject (eqb (factor g) 0 && not ends) 9 p
  k ← the (count_taken (taken g) e) 9 p
  ok (factor g * k)
count_added gda ends p g e = do
  reject (not (fits g e)) 21 p
  ok 1

-- One group of an RLO or GDA that counts n items so far.
unfoldable pub add_group : Kind → (ends : Bool) → (p n : ℕ) → Group → Option Entry → Result ℕ
add_group kind ends p n g r = do
  e ← the r 8 p
  k ← count_added kind ends p g e
  reject (ltb max_items (n + k)) 10 p
  ok (n + k)

-- The groups of a triplet, which may be the descriptor's last.
unfoldable pub add_groups : Kind → (last : Bool) → (p : ℕ) → List (ℕ × Entry) → (n : ℕ) → List Group → Result ℕ
add_groups kind last p es n [] = ok n
add_groups kind last p es n (g ∷ gs) =
    add_group kind (last && is_empty gs) p n g (lookup g.ref es) >>= (λ m. add_groups kind last p es m gs)

-- A mode or a bias indicator of 0 or 1 where the type has one, and zero elsewhere.
abbrev pub most : Bool → ℕ
most has = if has then 1 else 0

-- The type parameters are what a rule allows; of the size, the one that holds.
unfoldable pub good_parameters : Rule → List ℕ → Bool
good_parameters r ps =
    eqb (get_or ps 0 0) 0
    && eqb (get_or ps 1 0) 0
    && leb (bias_of ps) (most r.has_bias)
    && eqb (get_or ps 4 0) 0
    && leb (mode_of ps) (most r.has_mode)
    && allows r.sizes (size_in r ps)

abbrev pub good_type : Option FieldType → List ℕ → Bool
good_type none ps = false
good_type (some T) ps = good_parameters (rule_of T) ps

-- LENGTH is 12 plus zero to three extents.
abbrev pub good_length_sda : List ℕ → Bool
good_length_sda t = elem (length t) (12 ∷ 14 ∷ 16 ∷ 18 ∷ [])

abbrev pub good_sda : List ℕ → Bool
good_sda t = not (eqb (id_of t) 0) && good_type (type_of (code_of t)) (parameters_of t) && not (elem 0 (extents_of t))

unfoldable pub check_sda : List (ℕ × Entry) → (p : ℕ) → List ℕ → Result State
check_sda es p t = do
  reject (not (good_length_sda t)) 5 p
  reject (not (good_sda t)) 6 p
  reject (is_described (id_of t) es) 7 p
  reject (ltb max_items (product (extents_of t))) 10 p
  ok (record { described = (id_of t, array (code_of t) (extents_of t)) ∷ es; current = none })

-- LENGTH is 3 plus a positive multiple of 3.
abbrev pub good_length_row : List ℕ → Bool
good_length_row t = leb 6 (length t) && eqb (length t % 3) 0

-- LENGTH, names and count of a GDA are judged as for an RLO (Q-4).
unfoldable pub check_row : Kind → (last : Bool) → List (ℕ × Entry) → (p : ℕ) → List ℕ → Result State
check_row kind last es p t = do
  reject (not (good_length_row t)) 5 p
  reject (eqb (id_of t) 0) 6 p
  reject (is_described (id_of t) es) 7 p
  n ← add_groups kind last p es 0 (groups_of t)
  ok (record { described = es; current = some (id_of t, n, kind) })

-- A CPT continues the RLO or GDA right before it; its byte 2 is reserved.
unfoldable pub check_cpt : (last : Bool) → State → (p : ℕ) → List ℕ → Result State
check_cpt last st p t = do
  r ← the st.current 4 p
  reject (not (good_length_row t)) 5 p
  reject (not (eqb (id_of t) 0)) 6 p
  n ← add_groups r.2 last p st.described r.1 (groups_of t)
  ok (record { described = st.described; current = some (r.0, n, r.2) })

-- An ISD is the first triplet.
abbrev pub good_length_isd : List ℕ → Bool
good_length_isd t = elem (length t) (5 ∷ 6 ∷ [])

abbrev pub good_isd : List ℕ → Bool
good_isd t = eqb (id_of t) 0 && elem (subset_of t) (0x0000 ∷ 0x0100 ∷ []) && eqb (version_of t) 1

unfoldable pub check_isd : State → (p : ℕ) → List ℕ → Result State
check_isd st p t = do
  reject (not (eqb p 0)) 4 p
  reject (not (good_length_isd t)) 5 p
  reject (not (good_isd t)) 6 p
  ok st

unfoldable pub check_construct : Option Construct → (last : Bool) → State → (p : ℕ) → List ℕ → Result State
check_construct none last st p t = refuse 3 p
check_construct (some sda) last st p t = check_sda (closed st) p t
check_construct (some (grouped kind)) last st p t = check_row kind last (closed st) p t
check_construct (some isd) last st p t = check_isd st p t
check_construct (some cpt) last st p t = check_cpt last st p t

unfoldable pub check_triplet : (last : Bool) → State → Triplet → Result State
check_triplet last st (torn p) = refuse 2 p
check_triplet last st (triplet p t) = check_construct (construct_of t) last st p t

-- Triplets left to right: the first refusal stands.
unfoldable pub check_triplets : State → List Triplet → Result State
check_triplets st [] = ok st
check_triplets st (t ∷ ts) = check_triplet (is_empty ts) st t >>= (λ u. check_triplets u ts)

abbrev pub begin : State
begin = record { described = []; current = none }

-- The last SDA, RLO or GDA describes the block; 11 stands at the descriptor's length.
abbrev pub last_count : (size : ℕ) → List (ℕ × Entry) → Result ℕ
last_count size [] = refuse 11 size
last_count size (e ∷ es) = ok (count_of e.1)

-- 22, Endless (Q-5): every item of the repeated layout is an X'01' that is not nullable and has F 0.
abbrev pub is_endless : Option (List Field) → Bool
is_endless none = false
is_endless (some rows) = endless rows

-- The check's result: a refusal's number and place, or the item count, with rows to the end the count before them. Their group is the descriptor's last,
-- so that its 22, at its triplet, comes behind all else.
unfoldable pub check : List ℕ → Result ℕ
check d = do
  reject (ltb max_descriptor (length d)) 1 0
  st ← check_triplets begin (triplets d)
  n ← last_count (length d) (closed st)
  reject (is_endless (repeated d)) 22 (last_place (triplets d))
  ok n
