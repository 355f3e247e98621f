-- The ways through a null-terminated value's measuring: each says what a definition gives, by where `position` finds the first zero byte.
-- Assumes nothing.
use Rattle.std.proofs.Common.{◌≡◌, ◌==◌, ℕ, zero, suc, ◌+◌, ◌-◌, ◌<◌, ◌≤◌, min, List, [], ◌∷◌, Some, None, length, take, position, refl, arith, length-take-le}
use Rattle.std.specs.List.{position_or_len}
use Rattle.std.proofs.lemmas.Grind.{common_steps}
use Rattle.std.proofs.lemmas.List.Recursion.{is_position_or_len}
use Rattle.std.specs.Prelude.{if◌then◌else◌, cond, Bool, true, false}
use borrow.Author.Tests.{lt-ltb, le-ltb, le-leb, lt-leb}
use Rattle.fdoca.specs.Item.{refused, item, unbounded, limited, reserved, before_zero, measure_terminated}

by_zero : (b : Bool) (n : ℕ) → (if b then 0 else suc n) ≡ cond b 0 (1 + n)
by_zero true n = refl
by_zero false n = omega arith

-- the definitions' count of the bytes before a zero is the library's
counted : (s : List ℕ) → before_zero s ≡ position_or_len (λ b. b == 0) s
unfolding before_zero
counted s = is_position_or_len before_zero (λ b. b == 0) refl (λ x xs. by_zero (x == 0) (before_zero xs)) s

zero_at : (s : List ℕ) (z : ℕ) → Some z ≡ position (λ b. b == 0) s → (z < length s) × (before_zero s ≡ z)
zero_at s z h = grind (arith, common_steps, counted s)

no_zero : (s : List ℕ) → None ≡ position (λ b. b == 0) s → length s ≤ before_zero s
no_zero s h = grind (arith, common_steps, counted s)

module _ (s : List ℕ) where
  pub endless_found : (z : ℕ) → Some z ≡ position (λ b. b == 0) s → item false 0 z 1 ≡ measure_terminated unbounded s
  unfolding measure_terminated
  endless_found z h = let k = zero_at s z h in rw (k.1, lt-ltb z (length s) k.0)

  pub endless_none : None ≡ position (λ b. b == 0) s → refused 13 ≡ measure_terminated unbounded s
  unfolding measure_terminated
  endless_none h = rw (le-ltb (before_zero s) (length s) (no_zero s h))

among_more : (t : Bool) (n x y : ℕ) → x ≡ min n y → (if t then 0 else suc x) ≡ min (suc n) (if t then 0 else suc y)
among_more true n x y h = omega arith
among_more false n x y h = omega arith

-- among the first n bytes
zero_among : (n : ℕ) (s : List ℕ) → before_zero (take n s) ≡ min n (before_zero s)
unfolding before_zero
zero_among zero s = omega arith
zero_among (suc n) [] = omega arith
zero_among (suc n) (b ∷ s) = among_more (b == 0) n (before_zero (take n s)) (before_zero s) (zero_among n s)

-- a zero byte was looked for among the first n bytes, which are more than f
module _ (s : List ℕ) (f : ℕ) (l : f < length s) where
  among_found : (z : ℕ) → Some z ≡ position (λ b. b == 0) (take (f + 1) s) → (z ≤ f) × (before_zero s ≡ z)
  among_found z h = let k = zero_at (take (f + 1) s) z h in omega (arith, zero_among (f + 1) s, length-take-le (f + 1) s)

  among_none : None ≡ position (λ b. b == 0) (take (f + 1) s) → f < before_zero s
  among_none h = omega (arith, zero_among (f + 1) s, length-take-le (f + 1) s, no_zero (take (f + 1) s) h)

  pub bounded_found : (z : ℕ) → Some z ≡ position (λ b. b == 0) (take (f + 1) s) → item false 0 z 1 ≡ measure_terminated (limited f) s
  unfolding measure_terminated
  bounded_found z h = let k = among_found z h in rw (k.1, lt-ltb z (min (f + 1) (length s)) (omega arith))

  pub bounded_none : None ≡ position (λ b. b == 0) (take (f + 1) s) → refused 15 ≡ measure_terminated (limited f) s
  unfolding measure_terminated
  bounded_none h =
      let k : f < before_zero s = among_none h in
      rw (le-ltb (before_zero s) (min (f + 1) (length s)) (omega arith), le-ltb (length s) (f + 1) (omega arith))

  pub padded_found : (z : ℕ) → Some z ≡ position (λ b. b == 0) (take (f + 1) s) → item false 0 z (length (take (f + 1) s) - z) ≡ measure_terminated (reserved f) s
  unfolding measure_terminated
  padded_found z h =
      let k = among_found z h in
      rw (le-ltb (length s) (f + 1) (omega arith), k.1, le-leb z f k.0, length-take-le (f + 1) s (omega arith))

  pub padded_none : None ≡ position (λ b. b == 0) (take (f + 1) s) → refused 15 ≡ measure_terminated (reserved f) s
  unfolding measure_terminated
  padded_none h = rw (le-ltb (length s) (f + 1) (omega arith), lt-leb (before_zero s) f (among_none h))

module _ (s : List ℕ) (f : ℕ) (l : length s ≤ f) where
  pub bounded_rest : measure_terminated unbounded s ≡ measure_terminated (limited f) s
  unfolding measure_terminated
  bounded_rest =
      let e : min (f + 1) (length s) ≡ length s = omega arith in
      rw (e, lt-ltb (length s) (f + 1) (omega arith))

  pub padded_short : refused 13 ≡ measure_terminated (reserved f) s
  unfolding measure_terminated
  padded_short = rw (lt-ltb (length s) (f + 1) (omega arith))

pub ruleset ways = (endless_found, endless_none, bounded_rest, bounded_found, bounded_none, padded_short, padded_found, padded_none)
