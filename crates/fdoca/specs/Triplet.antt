-- A descriptor's triplets and their parts (document 01, "Triplets"; document 02, Q-4; 000, section 4.3).
use Rattle.std.specs.Prelude.{ℕ, zero, suc, ◌+◌, ◌||◌, List, [], ◌∷◌, ltb, length, take, drop, get_or, if◌then◌else◌}
use Rattle.std.proofs.Math.Option.{Option}
use Rattle.fdoca.specs.Basics.{big, lookup}
use Rattle.fdoca.specs.FieldType.{Size, size_of, Rule, size_that_holds}

-- A triplet's place in the descriptor and its LENGTH bytes; or the place of a torn one, with LENGTH below 2 or past the end.
pub data Triplet : Type 0 where
  torn : ℕ → Triplet
  triplet : ℕ → List ℕ → Triplet

-- The triplets of the bytes s, which stand at the place p. The fuel is at least the number of bytes.
abbrev pub triplets_from : (fuel p : ℕ) → List ℕ → List Triplet
triplets_from zero p s = []
triplets_from (suc fuel) p [] = []
triplets_from (suc fuel) p (n ∷ s) =
    let rest = triplets_from fuel (p + n) (drop n (n ∷ s)) in
    if ltb n 2 || ltb (length (n ∷ s)) n then torn p ∷ [] else triplet p (take n (n ∷ s)) ∷ rest

abbrev pub triplets : List ℕ → List Triplet
triplets d = triplets_from (length d) 0 d

-- The place of the last triplet; where there is none, it is not asked for.
abbrev pub place_of : Triplet → ℕ
place_of (torn p) = p
place_of (triplet p t) = p

abbrev pub last_place : List Triplet → ℕ
last_place [] = 0
last_place (t ∷ []) = place_of t
last_place (t ∷ u ∷ ts) = last_place (u ∷ ts)

-- The kinds of triplets with groups, which a CPT may continue: RLO, and GDA, the Group Data Array, which is Q-4's group triplet.
pub data Kind : Type 0 where
  rlo gda : Kind

-- The construct types that are carried.
pub data Construct : Type 0 where
  sda isd cpt : Construct
  grouped : Kind → Construct

abbrev pub constructs : List (ℕ × Construct)
constructs = (0x70, sda) ∷ (0x71, grouped rlo) ∷ (0x75, grouped gda) ∷ (0x7E, isd) ∷ (0x7F, cpt) ∷ []

-- The parts of a triplet's bytes.
abbrev pub construct_of : List ℕ → Option Construct
construct_of t = lookup (get_or t 1 0) constructs

abbrev pub id_of : List ℕ → ℕ
id_of t = get_or t 2 0

-- An SDA: field type, eight bytes of type parameters, extents.
abbrev pub code_of : List ℕ → ℕ
code_of t = get_or t 3 0

abbrev pub parameters_of : List ℕ → List ℕ
parameters_of t = take 8 (drop 4 t)

-- An extent is two bytes wide (000, section 4.3.1.2); the highest dimension comes first.
abbrev pub pairs : List ℕ → List ℕ
pairs [] = []
pairs (a ∷ []) = []
pairs (a ∷ b ∷ s) = big (a ∷ b ∷ []) ∷ pairs s

abbrev pub extents_of : List ℕ → List ℕ
extents_of t = pairs (drop 12 t)

-- Within the parameters: bias indicator in bytes 2 and 3, mode in byte 5, size in bytes 6 and 7.
abbrev pub bias_of : List ℕ → ℕ
bias_of ps = big (take 2 (drop 2 ps))

abbrev pub mode_of : List ℕ → ℕ
mode_of ps = get_or ps 5 0

-- The size that holds for the parameters of a type with the rule r.
abbrev pub size_in : Rule → List ℕ → Size
size_in r ps = size_that_holds r (size_of r.sizes (get_or ps 6 0) (get_or ps 7 0))

-- The three bytes of a group: the id referred to, and two more, which are in an RLO the elements taken and the repetition factor, in a GDA the field
-- length.
pub record Group : Type 0 where
  pub ref : ℕ
  pub byte1 : ℕ
  pub byte2 : ℕ

abbrev pub taken : Group → ℕ
taken g = g.byte1

abbrev pub factor : Group → ℕ
factor g = g.byte2

abbrev pub threes : List ℕ → List Group
threes [] = []
threes (a ∷ []) = []
threes (a ∷ b ∷ []) = []
threes (a ∷ b ∷ c ∷ s) = record { ref = a; byte1 = b; byte2 = c } ∷ threes s

abbrev pub groups_of : List ℕ → List Group
groups_of t = threes (drop 3 t)

-- An ISD: subset in bytes 3 and 4, version in byte 5, which is 1 where it is left off.
abbrev pub subset_of : List ℕ → ℕ
subset_of t = big (take 2 (drop 3 t))

abbrev pub version_of : List ℕ → ℕ
version_of t = get_or t 5 1
