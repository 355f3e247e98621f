-- What judging an SDA gives.
use Rattle.std.specs.Prelude.{ℕ, ◌+◌, ◌≤◌, ◌≡◌, true, List, [], ◌∷◌, ltb, length, get_or, if◌then◌else◌, Result, Ok, Err}
use Rattle.std.proofs.Math.Option.{none}
use Rattle.fdoca.specs.declared.Reason.{Reason}
use Rattle.fdoca.specs.Basics.{big, product, refuse, ok}
use Rattle.fdoca.specs.Triplet.{id_of, code_of, parameters_of, extents_of}
use Rattle.fdoca.specs.Check.{Entry, array, State, good_length_sda, good_sda, check_sda}
use Rattle.fdoca.specs.Returned.{number_of}
use Rattle.field_types.specs.Parameters.{shape_of}
use Rattle.sdas.specs.declared.Judged.{Judged}
use Rattle.sdas.specs.Tables.{Agrees}

-- The extent at a place of an SDA's bytes, 1 where it is left out.
unfoldable pub extent_or_1 : List ℕ → (at : ℕ) → ℕ
extent_or_1 t at = if ltb (length t) (at + 2) then 1 else big (get_or t at 0 ∷ get_or t (at + 1) 0 ∷ [])

-- The described ids with an SDA's at their head.
abbrev pub described : (id code : ℕ) → List ℕ → List (ℕ × Entry) → State
described id code xs es = record { described = (id, array code xs) ∷ es; current = none }

-- An SDA's bytes t are refused for this reason, where `s` has the positions of the described ids.
pub record RefusedSDA (t s : List ℕ) (reason : Reason) : Type 0 where
  pub refuses : (p : ℕ) (z e : List ℕ) (es : List (ℕ × Entry)) → Agrees s z e es → check_sda es p t ≡ refuse (number_of reason) p

-- They are accepted, with this shape and item count.
pub record AcceptedSDA (t s : List ℕ) (judged : Judged) : Type 0 where
  pub accepts : (p : ℕ) (z e : List ℕ) (es : List (ℕ × Entry)) → Agrees s z e es → check_sda es p t ≡ ok (described (id_of t) (code_of t) (extents_of t) es)
  pub count : judged.count ≡ product (extents_of t)
  pub shape : judged.shape ≡ shape_of (code_of t) (parameters_of t)
  pub length_good : good_length_sda t ≡ true
  pub good : good_sda t ≡ true
  pub small : judged.count ≤ 4096

abbrev pub JudgedSDA : (t s : List ℕ) → Result Judged Reason → Type 0
JudgedSDA t s (Err reason) = RefusedSDA t s reason
JudgedSDA t s (Ok judged) = AcceptedSDA t s judged
