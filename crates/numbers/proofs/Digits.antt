-- The bytes of a number in order of weight, and Horner's rule over them, at every width.
-- Assumes nothing.
use mathlib.Core.Path.{◌≡◌, refl, ◌∙◌}
use Prim.Native.Nat.{ℕ, zero, suc, ◌+◌, ◌-◌, ◌*◌, ◌<◌, ◌≤◌, ◌^◌}
use native.Mathlib.Nat.{pow-le-pow_right}
use native.Mathlib.Omega.{arith}
use mathlib.Core.Bool.{Bool, true, false}
use mathlib.Core.List.{List, [], ◌∷◌, reverse, reverse-cons}
use lib.Dec.{lit<, lit≤}
use lib.ListN.{length, get_or, take, length-reverse, get_or-append}
use lib.Seq.{take_all, get_or_at}
use mir.Syntax.{w64}
use mir.Val.{Fits}
use Rattle.fdoca.specs.Basics.{big, in_base}
use Rattle.fdoca.specs.Calls.{ordered}
use Rattle.fdoca.proofs.Digits.{ordered_length}
use Rattle.numbers.proofs.Big.{one_more, room, taken_more}

-- the byte that stands j before the end of the reversed bytes
reverse_at : (s : List ℕ) (j : ℕ) → j < length s → get_or (reverse s) (length s - suc j) 0 ≡ get_or s j 0
reverse_at [] j l = absurd (let z : ⊥ = omega arith in z)
reverse_at (x ∷ s) zero l =
    let e : suc (length s) - 1 ≡ length s = omega arith in
    rw (reverse-cons, e) (get_or_at (reverse s) x [] 0 (length s) (length-reverse s))
reverse_at (x ∷ s) (suc j) l =
    let e : suc (length s) - suc (suc j) ≡ length s - suc j = omega arith in
    let h : length s - suc j < length (reverse s) = rw length-reverse (omega arith) in
    rw (reverse-cons, e) (get_or-append (reverse s) (x ∷ []) 0 (length s - suc j) h ∙ reverse_at s j (omega arith))

-- the ways through `digit`
module _ (s : List ℕ) (reversed : Bool) (i b : ℕ) where
  pub digit_back : reversed ≡ true → i < length s → b ≡ get_or s (length s - 1 - i) 0 → b ≡ get_or (ordered s reversed) i 0
  unfolding ordered
  digit_back t l e =
      let k : length s - suc (length s - 1 - i) ≡ i = omega arith in
      rw (t, e, ← reverse_at s (length s - 1 - i) (omega arith), k)

  pub digit_front : reversed ≡ false → b ≡ get_or s i 0 → b ≡ get_or (ordered s reversed) i 0
  unfolding ordered
  digit_front t e = rw (t, e)

-- below 256 ^ k, with one byte more below 256 ^ (k + 1)
pub more : (k n b : ℕ) → n < 256 ^ k → b < 256 → n * 256 + b < 256 ^ (k + 1)
more k n b l d = one_more 256 k n b l d

-- fewer than eight bytes leave room for one more
module _ (m k n : ℕ) (few : m ≤ 8) (left : k < m) (l : n < 256 ^ k) where
  pub room_times : Fits w64 (n * 256)
  room_times = record { fits = omega (arith, room 256 8 k n 0 (lit< tt) (lit≤ tt) (omega arith) l (lit< tt)) }

  pub room_plus : (b : ℕ) → b < 256 → Fits w64 (n * 256 + b)
  room_plus b d = record { fits = room 256 8 k n b (lit< tt) (lit≤ tt) (omega arith) l d }

-- the number of the first i bytes
module _ (s : List ℕ) (reversed : Bool) where
  pub first_none : 0 ≡ big (take 0 (ordered s reversed))
  unfolding big in_base
  first_none = refl

  pub first_more : (i n b : ℕ) → i < length s → b ≡ get_or (ordered s reversed) i 0 → n ≡ big (take i (ordered s reversed)) → n * 256 + b ≡ big (take (i + 1) (ordered s reversed))
  unfolding big
  first_more i n b l e h = taken_more 256 (ordered s reversed) i n b (rw ordered_length l) e h

  pub first_all : (i n : ℕ) → length s ≤ i → n ≡ big (take i (ordered s reversed)) → n ≡ big (ordered s reversed)
  first_all i n l h =
      let t : length (ordered s reversed) ≤ i = rw ordered_length l in
      rw (take_all i (ordered s reversed) t) at h

pub first_below : (i m n : ℕ) → i ≤ m → n < 256 ^ i → n < 256 ^ m
first_below i m n h l = let q : 256 ^ i ≤ 256 ^ m = pow-le-pow_right (lit< tt) h in omega arith
