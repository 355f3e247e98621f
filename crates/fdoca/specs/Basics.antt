-- Case distinctions, byte numbers and refusals, which the other definitions share.
use Rattle.std.specs.Prelude.{ℕ, zero, suc, ◌+◌, ◌*◌, ◌^◌, Bool, true, false, List, [], ◌∷◌, ◌++◌, length, eqb, if◌then◌else◌}
use Rattle.std.proofs.Math.Option.{Option, none, some}

-- Whether a number is among others.
abbrev pub elem : ℕ → List ℕ → Bool
elem x [] = false
elem x (y ∷ ys) = if eqb x y then true else elem x ys

-- The number of a run of digits, most significant first.
unfoldable pub in_base : (base : ℕ) → List ℕ → ℕ
in_base base [] = 0
in_base base (d ∷ ds) = d * base ^ length ds + in_base base ds

-- The unsigned number of a run of bytes, most significant first.
unfoldable pub big : List ℕ → ℕ
big bs = in_base 256 bs

abbrev pub product : List ℕ → ℕ
product [] = 1
product (n ∷ ns) = n * product ns

module _ {A : Type 0} where
  -- What an association list has for a number: the first entry of several.
  abbrev pub lookup : ℕ → List (ℕ × A) → Option A
  lookup n [] = none
  lookup n (e ∷ es) = if eqb n e.0 then some e.1 else lookup n es

  abbrev pub is_some : Option A → Bool
  is_some none = false
  is_some (some a) = true

  abbrev pub is_empty : List A → Bool
  is_empty [] = true
  is_empty (a ∷ l) = false

  -- A list, n times over.
  abbrev pub repeat : ℕ → List A → List A
  repeat zero l = []
  repeat (suc n) l = l ++ repeat n l

-- A refusal, with its number and place, or a result.
infixl 20 ◌>>=◌ ◌>>◌
pub data Result (A : Type 0) : Type 0 where
  refuse : ℕ → ℕ → Result A
  ok : A → Result A

module _ {A B : Type 0} where
  abbrev pub ◌>>=◌ : Result A → (A → Result B) → Result B
  ◌>>=◌ (refuse n p) f = refuse n p
  ◌>>=◌ (ok a) f = f a

  abbrev pub ◌>>◌ : Result A → Result B → Result B
  ◌>>◌ (refuse n p) r = refuse n p
  ◌>>◌ (ok a) r = r

-- Refused with the number n at the place p, if the test holds.
abbrev pub reject : Bool → ℕ → ℕ → Result (Unit {0})
reject true n p = refuse n p
reject false n p = ok tt

module _ {A : Type 0} where
  -- Refused with the number n at the place p, if there is nothing.
  abbrev pub the : Option A → ℕ → ℕ → Result A
  the none n p = refuse n p
  the (some a) n p = ok a
