-- Lists over and over, and runs of stores.
-- Assumes nothing.
use mathlib.Core.Path.{◌≡◌, refl, sym, ap, ◌∙◌}
use mathlib.Core.List.{List, [], ◌∷◌, ◌++◌, map, map-append, append-nil, append_assoc}
use Prim.Native.Nat.{ℕ, zero, suc, ◌+◌, ◌-◌, ◌*◌, ◌≤◌, ◌<◌}
use native.Mathlib.Nat.{add-zero, add-suc, suc-add, zero-mul, suc-mul, add_comm}
use native.Mathlib.Omega.{arith}
use lib.ListN.{length, take, drop, set, replicate, length-append, replicate-append-replicate}
use lib.Seq.{sets, sets-eq, length-take-le, take_at, drop_at}
use Rattle.fdoca.specs.Basics.{repeat}

module _ {A : Type 0} where
  pub length_repeat : (n : ℕ) (l : List A) → length (repeat n l) ≡ n * length l
  length_repeat zero l = sym (zero-mul (length l))
  length_repeat (suc n) l = length-append l (repeat n l) ∙ omega (arith, length_repeat n l)

  pub repeat_first : (n : ℕ) (l : List A) → 0 < n → repeat n l ≡ l ++ repeat (n - 1) l
  repeat_first zero l h = absurd (omega arith)
  repeat_first (suc n) l h = let e : n ≡ suc n - 1 = omega arith in ap (λ (k : ℕ). l ++ repeat k l) e

  -- a list before its repetitions is one behind them
  pub repeat_behind : (n : ℕ) (l : List A) → l ++ repeat n l ≡ repeat n l ++ l
  repeat_behind zero l = append-nil l
  repeat_behind (suc n) l = ap (λ (m : List A). l ++ m) (repeat_behind n l) ∙ sym (append_assoc l (repeat n l) l)

  pub repeat_replicate : (n k : ℕ) (a : A) → repeat n (replicate k a) ≡ replicate (n * k) a
  repeat_replicate zero k a = rw zero-mul
  repeat_replicate (suc n) k a = rw (suc-mul, add_comm, repeat_replicate n k a, replicate-append-replicate)

  -- two runs of stores, one right behind the other, are one run
  pub sets_append : (s l m : List A) (i : ℕ) → sets (sets s i l) (i + length l) m ≡ sets s i (l ++ m)
  sets_append s [] m i = rw add-zero
  sets_append s (a ∷ l) m i = rw (add-suc, ← suc-add) (sets_append (set s i a) l m (suc i))

  -- what was stored is read back
  pub read_back : (s l : List A) (i : ℕ) → i + length l ≤ length s → take (length l) (drop i (sets s i l)) ≡ l
  read_back s l i h =
      ap (λ (t : List A). take (length l) (drop i t)) (sets-eq l s i h ∙ append_assoc (take i s) l (drop (i + length l) s))
      ∙ ap (take (length l)) (drop_at (take i s) (l ++ drop (i + length l) s) i (length-take-le i s (omega arith)))
      ∙ take_at l (drop (i + length l) s) (length l) refl

module _ {A B : Type 0} (f : A → B) where
  pub map_repeat : (n : ℕ) (l : List A) → map f (repeat n l) ≡ repeat n (map f l)
  map_repeat zero l = refl
  map_repeat (suc n) l = rw (map-append f l (repeat n l), map_repeat n l)

  pub map_replicate : (n : ℕ) (a : A) → map f (replicate n a) ≡ replicate n (f a)
  map_replicate zero a = refl
  map_replicate (suc n) a = ap (λ (t : List B). f a ∷ t) (map_replicate n a)
