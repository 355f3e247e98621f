-- The bytes of a triplet, and its parts, at their places in the descriptor.
-- Assumes nothing.
use mathlib.Core.Path.{◌≡◌, refl, ap, ◌∙◌}
use Prim.Native.Nat.{ℕ, zero, suc, ◌+◌, ◌*◌, ◌≤◌, ◌<◌}
use mathlib.Core.List.{List, [], ◌∷◌}
use native.Mathlib.Omega.{arith}
use lib.ListN.{length, take, drop, get_or, length-drop, drop_of_length-le, get_or-eq_default}
use lib.Seq.{drop-cons, length-take-le, get_or-take, get_or-drop}
use Rattle.fdoca.specs.Basics.{big}
use Rattle.fdoca.specs.Triplet.{parameters_of, pairs, bias_of, mode_of, Group, threes, subset_of, version_of}
use Rattle.fdoca.specs.Reasons.{byte, two_bytes, place, length_byte, byte_of, NotTorn, extent, reference, taken, factor}
use Rattle.fdoca.proofs.Account.{big_two}

-- the bytes of a run from a place on
pub two_at : (l : List ℕ) (i : ℕ) → i + 1 < length l → drop i l ≡ byte l i ∷ byte l (i + 1) ∷ drop (i + 2) l
two_at l i h =
    let e₁ : i + 1 ≡ suc i = omega arith in
    let e₂ : i + 2 ≡ suc (suc i) = omega arith in
    rw (e₁, e₂) (drop-cons l i 0 (omega arith) ∙ ap (λ r. byte l i ∷ r) (drop-cons l (suc i) 0 (omega arith)))

three_at : (l : List ℕ) (i : ℕ) → i + 2 < length l → drop i l ≡ byte l i ∷ byte l (i + 1) ∷ byte l (i + 2) ∷ drop (i + 3) l
three_at l i h =
    let e : i + 3 ≡ suc (i + 2) = omega arith in
    rw e (two_at l i (omega arith) ∙ ap (λ r. byte l i ∷ byte l (i + 1) ∷ r) (drop-cons l (i + 2) 0 h))

pub big_at : (l : List ℕ) (i : ℕ) → i + 1 < length l → big (take 2 (drop i l)) ≡ two_bytes l i
big_at l i h = rw (two_at l i h) (big_two (byte l i) (byte l (i + 1)))

pub pairs_at : (l : List ℕ) (i : ℕ) → i + 1 < length l → pairs (drop i l) ≡ two_bytes l i ∷ pairs (drop (i + 2) l)
pairs_at l i h = rw (two_at l i h) (ap (λ x. x ∷ pairs (drop (i + 2) l)) (big_two (byte l i) (byte l (i + 1))))

pub threes_at : (l : List ℕ) (i : ℕ) → i + 2 < length l
    → threes (drop i l) ≡ record { ref = byte l i; byte1 = byte l (i + 1); byte2 = byte l (i + 2) } ∷ threes (drop (i + 3) l)
threes_at l i h = rw (three_at l i h)

pub pairs_end : (l : List ℕ) (i : ℕ) → length l ≤ i → pairs (drop i l) ≡ []
pairs_end l i h = rw (drop_of_length-le l h)

pub threes_end : (l : List ℕ) (i : ℕ) → length l ≤ i → threes (drop i l) ≡ []
threes_end l i h = rw (drop_of_length-le l h)

-- an entry of a list does not hang on the value given for those past its end
default_unused : (l : List ℕ) (i a b : ℕ) → i < length l → get_or l i a ≡ get_or l i b
default_unused [] i a b h = absurd (let z : ⊥ = omega arith in z)
default_unused (x ∷ l) zero a b h = refl
default_unused (x ∷ l) (suc i) a b h = default_unused l i a b (omega arith)

-- The bytes of triplet j.
abbrev pub bytes_of : List ℕ → ℕ → List ℕ
bytes_of d j = take (length_byte d j) (drop (place d j) d)

module _ (d : List ℕ) (j : ℕ) (w : NotTorn d j) where
  pub length_bytes : length (bytes_of d j) ≡ length_byte d j
  length_bytes = length-take-le (length_byte d j) (drop (place d j) d) (omega (arith, w.fits, length-drop (place d j) d))

  pub byte_bytes : (i : ℕ) → i < length_byte d j → byte (bytes_of d j) i ≡ byte_of d j i
  byte_bytes i h = get_or-take (length_byte d j) (drop (place d j) d) i 0 h ∙ get_or-drop (place d j) d i 0

  two_bytes_lem : (i : ℕ) → i + 1 < length_byte d j → two_bytes (bytes_of d j) i ≡ two_bytes d (place d j + i)
  two_bytes_lem i h =
      let e : place d j + (i + 1) ≡ place d j + i + 1 = omega arith in
      rw (byte_bytes i (omega arith), byte_bytes (i + 1) h, e)

  -- the parts of an SDA
  module _ (long : 12 ≤ length_byte d j) where
    length_parameters : length (parameters_of (bytes_of d j)) ≡ 8
    length_parameters = length-take-le 8 (drop 4 (bytes_of d j)) (omega (arith, length_bytes, length-drop 4 (bytes_of d j)))

    pub byte_parameters : (i : ℕ) → i < 8 → byte (parameters_of (bytes_of d j)) i ≡ byte_of d j (4 + i)
    byte_parameters i h = get_or-take 8 (drop 4 (bytes_of d j)) i 0 h ∙ get_or-drop 4 (bytes_of d j) i 0 ∙ byte_bytes (4 + i) (omega arith)

    pair_parameters : (i : ℕ) → i + 1 < 8 → two_bytes (parameters_of (bytes_of d j)) i ≡ two_bytes d (place d j + (4 + i))
    pair_parameters i h =
        let e : place d j + (4 + (i + 1)) ≡ place d j + (4 + i) + 1 = omega arith in
        rw (byte_parameters i (omega arith), byte_parameters (i + 1) h, e)

    pub bias_bytes : bias_of (parameters_of (bytes_of d j)) ≡ two_bytes d (place d j + 6)
    bias_bytes = big_at (parameters_of (bytes_of d j)) 2 (omega (arith, length_parameters)) ∙ pair_parameters 2 (omega arith)

    pub mode_bytes : mode_of (parameters_of (bytes_of d j)) ≡ byte_of d j 9
    mode_bytes = byte_parameters 5 (omega arith)

  -- the extents from number k on
  pub extents_from : (k : ℕ) → 14 + 2 * k ≤ length_byte d j
      → pairs (drop (12 + 2 * k) (bytes_of d j)) ≡ extent d j k ∷ pairs (drop (12 + 2 * suc k) (bytes_of d j))
  extents_from k h =
      let e : 12 + 2 * suc k ≡ 12 + 2 * k + 2 = omega arith in
      rw e (pairs_at (bytes_of d j) (12 + 2 * k) (omega (arith, length_bytes)) ∙ rw (two_bytes_lem (12 + 2 * k) (omega arith)))

  pub extents_end : (k : ℕ) → length_byte d j ≡ 12 + 2 * k → pairs (drop (12 + 2 * k) (bytes_of d j)) ≡ []
  extents_end k e = pairs_end (bytes_of d j) (12 + 2 * k) (omega (arith, length_bytes))

  -- the groups from number k on
  abbrev pub group_of : (k : ℕ) → Group
  group_of k = record { ref = reference d j k; byte1 = taken d j k; byte2 = factor d j k }

  pub groups_from : (k : ℕ) → 6 + 3 * k ≤ length_byte d j → threes (drop (3 + 3 * k) (bytes_of d j)) ≡ group_of k ∷ threes (drop (3 + 3 * suc k) (bytes_of d j))
  groups_from k h =
      let e : 3 + 3 * suc k ≡ 3 + 3 * k + 3 = omega arith in
      let e₁ : 4 + 3 * k ≡ 3 + 3 * k + 1 = omega arith in
      let e₂ : 5 + 3 * k ≡ 3 + 3 * k + 2 = omega arith in
      rw (e, e₁, e₂)
      (threes_at (bytes_of d j) (3 + 3 * k) (omega (arith, length_bytes))
      ∙ rw (byte_bytes (3 + 3 * k) (omega arith), byte_bytes (3 + 3 * k + 1) (omega arith), byte_bytes (3 + 3 * k + 2) (omega arith)))

  pub groups_end : (k : ℕ) → length_byte d j ≡ 3 + 3 * k → threes (drop (3 + 3 * k) (bytes_of d j)) ≡ []
  groups_end k e = threes_end (bytes_of d j) (3 + 3 * k) (omega (arith, length_bytes))

  -- the subset of an ISD
  pub subset_bytes : 5 ≤ length_byte d j → subset_of (bytes_of d j) ≡ two_bytes d (place d j + 3)
  subset_bytes h = big_at (bytes_of d j) 3 (omega (arith, length_bytes)) ∙ two_bytes_lem 3 (omega arith)

  -- its version, 1 where it is left off
  pub version_bytes : 6 ≤ length_byte d j → version_of (bytes_of d j) ≡ byte_of d j 5
  version_bytes h = default_unused (bytes_of d j) 5 1 0 (omega (arith, length_bytes)) ∙ byte_bytes 5 (omega arith)

  pub version_left_off : length_byte d j ≤ 5 → version_of (bytes_of d j) ≡ 1
  version_left_off h = get_or-eq_default (bytes_of d j) 1 (omega (arith, length_bytes))
