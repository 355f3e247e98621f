-- A packed decimal: its half-bytes, its digits by Horner's rule, its sign, and the ways through `packed`.
-- Assumes nothing.
use Rattle.std.specs.Prelude.{Some, None, ℤ, if◌then◌else◌}
use Rattle.std.specs.Prelude as given
use mathlib.Core.Path.{◌≡◌, refl, sym, ap, ◌∙◌}
use Prim.Native.Nat.{ℕ, ◌+◌, ◌*◌, ◌/◌, ◌%◌, ◌<◌, ◌≤◌, ◌^◌}
use native.Mathlib.Nat.{pow-le-pow_right}
use native.Mathlib.Numerals.{add-one}
use native.Mathlib.Omega.{arith}
use mathlib.Core.Bool.{Bool, true, false, and-false}
use mathlib.Core.List.{List, [], ◌∷◌}
use mathlib.Core.Option.{Option, none, some}
use lib.Dec.{lit<, lit≤}
use lib.ListN.{length, get_or, take, drop, length-drop, length-take}
use lib.Seq.{take-suc, take_all, get_or-take, get_or-drop, length-take-le}
use mir.Syntax.{w64}
use mir.Val.{Fits}
use borrow.Author.Tests.{lt-ltb}
use Rattle.fdoca.specs.Basics.{lookup, in_base}
use Rattle.fdoca.specs.Packed.{half_bytes, Sign, signs, with_sign, all_below, read_digits, unused_before, packed_number}
use Rattle.fdoca.proofs.Packed.{length_halves, halves_at, below_append, below_at}
use Rattle.fdoca.specs.Returned.{option_of}
use Rattle.numbers.specs.Packed.{magnitude_of, signed_by}
use Rattle.fdoca.proofs.Digits.{base_below}
use Rattle.numbers.proofs.Big.{one_more, room, taken_more}

-- the ways through `half`
module _ (s : List ℕ) (i b : ℕ) (e : b ≡ get_or s (i / 2) 0) where
  pub half_left : i % 2 ≡ 0 → b / 16 ≡ get_or (half_bytes s) i 0
  half_left h =
      let k : i ≡ 2 * (i / 2) = omega arith in
      ap (λ n. n / 16) e ∙ sym (ap (λ n. get_or (half_bytes s) n 0) k ∙ (halves_at s (i / 2)).0)

  pub half_right : (i % 2 ≡ 0 → ⊥) → b % 16 ≡ get_or (half_bytes s) i 0
  half_right h =
      let k : i ≡ 2 * (i / 2) + 1 = omega arith in
      ap (λ n. n % 16) e ∙ sym (ap (λ n. get_or (half_bytes s) n 0) k ∙ (halves_at s (i / 2)).1)

-- the digits from a half-byte on
module _ (s : List ℕ) (from p : ℕ) where
  abbrev pub digits_from : List ℕ
  digits_from = take p (drop from (half_bytes s))

  module _ (fits : from + p ≤ 2 * length s) where
    all_there : length digits_from ≡ p
    all_there = length-take-le p (drop from (half_bytes s)) (omega (arith, length_halves s, length-drop from (half_bytes s)))

    digit_at : (i d : ℕ) → i < p → d ≡ get_or (half_bytes s) (from + i) 0 → d ≡ get_or digits_from i 0
    digit_at i d l e = e ∙ sym (get_or-take p (drop from (half_bytes s)) i 0 l ∙ get_or-drop from (half_bytes s) i 0)

    pub digit_bad : (i d : ℕ) → i < p → d ≡ get_or (half_bytes s) (from + i) 0 → 9 < d → None ≡ magnitude_of digits_from
    unfolding magnitude_of
    digit_bad i d l e h = go (all_below 10 digits_from) refl
      where
        go : (b : Bool) → all_below 10 digits_from ≡ b → None ≡ (if b then Some (in_base 10 digits_from) else None)
        go true t = absurd (let z : ⊥ = omega (arith, below_at 10 digits_from i (lit< tt) t, digit_at i d l e) in z)
        go false t = refl

    pub digits_more : (i d : ℕ) → i < p → d ≡ get_or (half_bytes s) (from + i) 0 → d ≤ 9 → all_below 10 (take i digits_from) ≡ true
        → all_below 10 (take (i + 1) digits_from) ≡ true
    digits_more i d l e h t =
        let k : get_or digits_from i 0 < 10 = omega (arith, digit_at i d l e) in
        let one : all_below 10 (get_or digits_from i 0 ∷ []) ≡ true = rw (lt-ltb (get_or digits_from i 0) 10 k) in
        rw (add-one, take-suc digits_from i 0 (omega (arith, all_there))) (below_append 10 (take i digits_from) (get_or digits_from i 0 ∷ []) t one)

    pub number_more : (i n d : ℕ) → i < p → d ≡ get_or (half_bytes s) (from + i) 0 → n ≡ in_base 10 (take i digits_from)
        → n * 10 + d ≡ in_base 10 (take (i + 1) digits_from)
    number_more i n d l e h = taken_more 10 digits_from i n d (omega (arith, all_there)) (digit_at i d l e) h

    pub digits_all : (i n : ℕ) → p ≤ i → all_below 10 (take i digits_from) ≡ true → n ≡ in_base 10 (take i digits_from) → Some n ≡ magnitude_of digits_from
    unfolding magnitude_of
    digits_all i n l t h =
        let q : take i digits_from ≡ digits_from = take_all i digits_from (omega (arith, all_there)) in
        rw (rw q at t) (ap Some (rw q at h))

pub no_digits : (ds : List ℕ) → (all_below 10 (take 0 ds) ≡ true) × ((0 ≡ in_base 10 (take 0 ds)) × (0 < 10 ^ 0))
unfolding in_base
no_digits ds = (refl, (refl, lit< tt))

pub below_more : (i n d : ℕ) → n < 10 ^ i → d ≤ 9 → n * 10 + d < 10 ^ (i + 1)
below_more i n d l h = one_more 10 i n d l (omega arith)

module _ (p i n : ℕ) (few : p ≤ 18) (left : i < p) (l : n < 10 ^ i) where
  pub digit_times : Fits w64 (n * 10)
  digit_times = record { fits = omega (arith, room 10 18 i n 0 (lit< tt) (lit≤ tt) (omega arith) l (lit< tt)) }

  pub digit_plus : (d : ℕ) → d ≤ 9 → Fits w64 (n * 10 + d)
  digit_plus d h = record { fits = room 10 18 i n d (lit< tt) (lit≤ tt) (omega arith) l (omega arith) }

-- the ways through `packed`
module _ (s : List ℕ) (p : ℕ) where
  abbrev hs : List ℕ
  hs = half_bytes s

  abbrev u : ℕ
  u = unused_before p

  abbrev ds : List ℕ
  ds = take p (drop u hs)

  pub unused_set : (z : Bool) → z ≡ all_below 1 (take u hs) → z ≡ false → None ≡ option_of (packed_number p s)
  unfolding packed_number
  unused_set z e f = go (lookup (get_or hs (u + p) 0) signs)
    where
      t : all_below 1 (take u hs) ≡ false
      t = sym e ∙ f

      go : (o : Option Sign) → None ≡ option_of (read_digits (take u hs) ds o)
      go none = refl
      go (some k) = rw t

  below_top : p ≤ 18 → all_below 10 ds ≡ true → in_base 10 ds < 1000000000000000000
  below_top few t =
      let l : length ds ≤ 18 = omega (arith, length-take p (drop u hs)) in
      let q : 10 ^ length ds ≤ 10 ^ 18 = pow-le-pow_right (lit< tt) l in
      omega (arith, base_below 10 ds (λ i. below_at 10 ds i (lit< tt) t))

  pub digit_above : None ≡ magnitude_of ds → None ≡ option_of (packed_number p s)
  unfolding packed_number magnitude_of
  digit_above = go (all_below 10 ds) (lookup (get_or hs (u + p) 0) signs) refl
    where
      go : (b : Bool) (o : Option Sign) → all_below 10 ds ≡ b → None ≡ (if b then Some (in_base 10 ds) else None) → None ≡ option_of (read_digits (take u hs) ds o)
      go b none t q = refl
      go true (some k) t q = cc
      go false (some k) t q = rw (t, and-false)

  module _ (n : ℕ) (e : Some n ≡ magnitude_of ds) where
    pub magnitude_small : p ≤ 18 → n < 1000000000000000000
    unfolding magnitude_of
    magnitude_small few = go (all_below 10 ds) refl e
      where
        go : (b : Bool) → all_below 10 ds ≡ b → Some n ≡ (if b then Some (in_base 10 ds) else None) → n < 1000000000000000000
        go true t q = let k : n ≡ in_base 10 ds = cc in omega (arith, below_top few t)
        go false t q = cc

    pub signed_read : (z : Bool) (sign : ℕ) (r : given.Option ℤ) → z ≡ all_below 1 (take u hs) → z ≡ true → sign ≡ get_or hs (u + p) 0
        → r ≡ signed_by n (lookup sign signs) → r ≡ option_of (packed_number p s)
    unfolding packed_number magnitude_of
    signed_read z sign r q t k h = go (all_below 10 ds) (lookup (get_or hs (u + p) 0) signs) refl e (rw k at h)
      where
        zero_unused : all_below 1 (take u hs) ≡ true
        zero_unused = sym q ∙ t

        go : (b : Bool) (o : Option Sign) → all_below 10 ds ≡ b → Some n ≡ (if b then Some (in_base 10 ds) else None) → r ≡ signed_by n o
            → r ≡ option_of (read_digits (take u hs) ds o)
        go b none w g x = x
        go true (some k) w g x = let m : n ≡ in_base 10 ds = cc in rw (zero_unused, w) (x ∙ ap (λ m. Some (with_sign k m)) m)
        go false (some k) w g x = cc
