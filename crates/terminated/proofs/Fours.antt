-- The first zero byte, looked for among four bytes at a time.
-- Assumes nothing.
use Rattle.std.proofs.Common.{◌≡◌, ◌==◌, ℕ, ◌+◌, ◌-◌, ◌<◌, ◌≤◌, List, [], ◌∷◌, ◌++◌, Some, None, length, take, drop, get_or, position, arith, drop-cons, add-one, length-drop}
use Rattle.std.specs.List.{position_or_len}
use Rattle.std.proofs.lemmas.Grind.{common_steps}
use Rattle.std.proofs.lemmas.List.Folds.{prefix_len-append}
use Rattle.std.proofs.lemmas.List.Sums.{prefix_len-le-length}
use borrow.Author.Rules.{part_to_end}

abbrev zero_at : List ℕ → ℕ
zero_at s = position_or_len (λ b. b == 0) s

is_some : (s : List ℕ) (k : ℕ) → Some k ≡ position (λ b. b == 0) s → (k < length s) × (zero_at s ≡ k)
is_some s k h = grind (arith, common_steps)

is_none : (s : List ℕ) → None ≡ position (λ b. b == 0) s → length s ≤ zero_at s
is_none s h = grind (arith, common_steps)

some_is : (s : List ℕ) (k : ℕ) → k < length s → zero_at s ≡ k → Some k ≡ position (λ b. b == 0) s
some_is s k h e = grind (arith, common_steps)

none_is : (s : List ℕ) → length s ≤ zero_at s → None ≡ position (λ b. b == 0) s
none_is s h = grind (arith, common_steps)

in_front : (xs ys : List ℕ) → zero_at xs < length xs → zero_at (xs ++ ys) ≡ zero_at xs
in_front xs ys h = grind (arith, common_steps, prefix_len-append)

behind : (xs ys : List ℕ) → length xs ≤ zero_at xs → zero_at (xs ++ ys) ≡ length xs + zero_at ys
behind xs ys h = grind (arith, common_steps, prefix_len-append, prefix_len-le-length)

module _ (s : List ℕ) (i : ℕ) where
  one : (j n : ℕ) → j < length s → n ≡ j + 1 → drop j s ≡ get_or s j 0 ∷ drop n s
  one j n h e = rw (e, add-one) (drop-cons s j 0 h)

  abbrev four : List ℕ
  four = get_or s i 0 ∷ get_or s (i + 1) 0 ∷ get_or s (i + 2) 0 ∷ get_or s (i + 3) 0 ∷ []

  four_more : 4 ≤ length s - i → drop i s ≡ four ++ drop (i + 4) s
  four_more l =
      let a = one i (i + 1) (omega arith) (omega arith) in
      let b = one (i + 1) (i + 2) (omega arith) (omega arith) in
      let c = one (i + 2) (i + 3) (omega arith) (omega arith) in
      let d = one (i + 3) (i + 4) (omega arith) (omega arith) in
      cc

  module _ (w : zero_at s ≡ i + zero_at (drop i s)) where
    pub zero_among : 4 ≤ length s - i → (k : ℕ) → Some k ≡ position (λ b. b == 0) four → Some (i + k) ≡ position (λ b. b == 0) s
    zero_among l k h =
        let x = is_some four k h in
        let y : zero_at (drop i s) ≡ zero_at four = rw (four_more l) (in_front four (drop (i + 4) s) (omega arith)) in
        some_is s (i + k) (omega arith) (omega arith)

    pub none_among : 4 ≤ length s - i → None ≡ position (λ b. b == 0) four → zero_at s ≡ i + 4 + zero_at (drop (i + 4) s)
    none_among l h =
        let y : zero_at (drop i s) ≡ 4 + zero_at (drop (i + 4) s) = rw (four_more l) (behind four (drop (i + 4) s) (is_none four h)) in
        omega arith

    module _ (l : i ≤ length s) where
      pub zero_behind : (k : ℕ) → Some k ≡ position (λ b. b == 0) (take (length s - i) (drop i s)) → Some (i + k) ≡ position (λ b. b == 0) s
      zero_behind k h =
          let x = is_some (drop i s) k (rw (part_to_end s i) at h) in
          some_is s (i + k) (omega (arith, length-drop i s)) (omega arith)

      pub none_behind : None ≡ position (λ b. b == 0) (take (length s - i) (drop i s)) → None ≡ position (λ b. b == 0) s
      none_behind h =
          let x = is_none (drop i s) (rw (part_to_end s i) at h) in
          none_is s (omega (arith, length-drop i s))

pub ruleset fours = (zero_among, none_among, zero_behind, none_behind)
