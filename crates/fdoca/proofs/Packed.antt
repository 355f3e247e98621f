-- A packed decimal's number is the one that the standard's account gives its bytes: each run of digits with a sign, written in half-bytes, reads back,
-- and nothing else is read. Where nothing is, a digit, the sign or the unused half-byte is bad.
-- Assumes nothing.
use Rattle.std.specs.Prelude.{if◌then◌else◌}
use mathlib.Core.Path.{◌≡◌, refl, sym, ap, ◌∙◌}
use Prim.Native.Nat.{ℕ, zero, suc, ◌+◌, ◌*◌, ◌/◌, ◌%◌, ◌^◌, ◌≤◌, ◌<◌}
use native.Mathlib.Omega.{arith}
use mathlib.Core.Bool.{Bool, true, false, ◌&&◌, true≢false}
use mathlib.Core.List.{List, [], ◌∷◌, ◌++◌}
use mathlib.Core.Option.{Option, none, some}
use lib.Dec.{ltb, eqb}
use lib.IntN.{ℤ}
use lib.ListN.{length, take, drop, get_or, replicate, length-append, length-replicate, length-drop, length-take, take-append-drop}
use lib.Seq.{length-take-le, take_at, drop_at, get_or_at, drop-cons, drop-drop, get_or-take, get_or-drop, drop-length}
use borrow.Author.Tests.{ltb-true, ltb-false, lt-ltb, eqb-true, eqb-false}
use Rattle.fdoca.specs.Basics.{lookup, in_base}
use Rattle.fdoca.specs.Packed.{half_bytes, Sign, plus, minus, signs, with_sign, all_below, read_digits, unused_before, packed_number}
use Rattle.fdoca.specs.Account.{Digits, no_digit, digit, Signed, plus_a, minus_b, plus_c, minus_d, plus_e, plus_f, Unused, before_odd, before_even, in_pairs, Packed}
use Rattle.fdoca.specs.Reasons as R
use Rattle.fdoca.specs.Reasons.{BadDigit, half}
use Rattle.fdoca.proofs.Table.{end, ◌&◌, found_as, unlisted}
use Rattle.fdoca.proofs.Tests.{and_left, and_right}

-- HALF-BYTES

pub length_halves : (v : List ℕ) → length (half_bytes v) ≡ 2 * length v
unfolding half_bytes
length_halves [] = refl
length_halves (b ∷ v) = let e : length (half_bytes v) ≡ 2 * length v = length_halves v in omega arith

pub halves_at : (v : List ℕ) (j : ℕ) → (half v (2 * j) ≡ get_or v j 0 / 16) × (half v (2 * j + 1) ≡ get_or v j 0 % 16)
unfolding half_bytes
halves_at [] j = (refl, refl)
halves_at (b ∷ v) zero = (refl, refl)
halves_at (b ∷ v) (suc j) =
    let e₁ : 2 * suc j ≡ suc (suc (2 * j)) = omega arith in
    let e₂ : 2 * suc j + 1 ≡ suc (suc (2 * j + 1)) = omega arith in
    (rw e₁ (halves_at v j).0, rw e₂ (halves_at v j).1)

right_half : (v : List ℕ) (j : ℕ) → half v (2 * j + 1) < 16
right_half v j = omega (arith, (halves_at v j).1)

bytes_again : (v : List ℕ) → in_pairs (half_bytes v) ≡ v
unfolding half_bytes
bytes_again [] = refl
bytes_again (b ∷ v) = let e : b / 16 * 16 + b % 16 ≡ b = omega arith in rw (e, bytes_again v)

halves_again : (k : ℕ) (hs : List ℕ) → length hs ≡ 2 * k → all_below 16 hs ≡ true → half_bytes (in_pairs hs) ≡ hs
unfolding half_bytes
halves_again k [] n h = refl
halves_again k (a ∷ []) n h = absurd (let z : ⊥ = omega arith in z)
halves_again zero (a ∷ b ∷ hs) n h = absurd (let z : ⊥ = omega arith in z)
halves_again (suc k) (a ∷ b ∷ hs) n h =
    let t = and_right (ltb a 16) (ltb b 16 && all_below 16 hs) h in
    let l : b < 16 = ltb-true b 16 (and_left (ltb b 16) (all_below 16 hs) t) in
    let e₁ : (a * 16 + b) / 16 ≡ a = omega arith in
    let e₂ : (a * 16 + b) % 16 ≡ b = omega arith in
    rw (e₁, e₂, halves_again k hs (omega arith) (and_right (ltb b 16) (all_below 16 hs) t))

-- NUMBERS BELOW A BOUND

pub below_append : (n : ℕ) (xs ys : List ℕ) → all_below n xs ≡ true → all_below n ys ≡ true → all_below n (xs ++ ys) ≡ true
below_append n [] ys h k = k
below_append n (x ∷ xs) ys h k =
    rw (and_left (ltb x n) (all_below n xs) h) (below_append n xs ys (and_right (ltb x n) (all_below n xs) h) k)

below_more : (m n : ℕ) (xs : List ℕ) → m ≤ n → all_below m xs ≡ true → all_below n xs ≡ true
below_more m n [] l h = refl
below_more m n (x ∷ xs) l h =
    let k : x < m = ltb-true x m (and_left (ltb x m) (all_below m xs) h) in
    rw (lt-ltb x n (omega arith)) (below_more m n xs l (and_right (ltb x m) (all_below m xs) h))

pub below_at : (n : ℕ) (xs : List ℕ) (i : ℕ) → 0 < n → all_below n xs ≡ true → get_or xs i 0 < n
below_at n [] i l h = l
below_at n (x ∷ xs) zero l h = ltb-true x n (and_left (ltb x n) (all_below n xs) h)
below_at n (x ∷ xs) (suc i) l h = below_at n xs i l (and_right (ltb x n) (all_below n xs) h)

not_below : (n : ℕ) (xs : List ℕ) → all_below n xs ≡ false → (i : ℕ) × (i < length xs) × (n ≤ get_or xs i 0)
not_below n [] h = absurd (true≢false h)
not_below n (x ∷ xs) h = go (ltb x n) refl h (λ k. not_below n xs k)
  where
    go : (b : Bool) → ltb x n ≡ b → (b && all_below n xs) ≡ false → (all_below n xs ≡ false → (i : ℕ) × (i < length xs) × (n ≤ get_or xs i 0))
        → (i : ℕ) × (i < suc (length xs)) × (n ≤ get_or (x ∷ xs) i 0)
    go true t h ih = let q = ih h in (suc q.0, omega (arith, q.1), q.2)
    go false t h ih = (0, omega arith, ltb-false x n t)

zeros_below : (u : ℕ) → all_below 1 (replicate u 0) ≡ true
zeros_below zero = refl
zeros_below (suc u) = zeros_below u

below_zeros : (xs : List ℕ) → all_below 1 xs ≡ true → xs ≡ replicate (length xs) 0
below_zeros [] h = refl
below_zeros (x ∷ xs) h =
    let e : x ≡ 0 = omega (arith, ltb-true x 1 (and_left (ltb x 1) (all_below 1 xs) h)) in
    rw (e, ← below_zeros xs (and_right (ltb x 1) (all_below 1 xs) h))

-- DIGITS AND SIGN

digits_of_lem : (ds : List ℕ) → all_below 10 ds ≡ true → Digits ds (in_base 10 ds)
unfolding in_base
digits_of_lem [] h = no_digit
digits_of_lem (d ∷ ds) h =
    let l : d < 10 = ltb-true d 10 (and_left (ltb d 10) (all_below 10 ds) h) in
    let m : d ≤ 9 = omega arith in
    digit m (digits_of_lem ds (and_right (ltb d 10) (all_below 10 ds) h))

of_digits : {ds : List ℕ} {n : ℕ} → Digits ds n → (all_below 10 ds ≡ true) × (n ≡ in_base 10 ds)
unfolding in_base
of_digits no_digit = (refl, refl)
of_digits (digit {d = d} {n = n} {ds = ds} l h) =
    let q = of_digits h in
    (rw (lt-ltb d 10 (omega arith)) q.0, ap (λ m. d * 10 ^ length ds + m) q.1)

signed_by_lem : (n h : ℕ) (s : Sign) → lookup h signs ≡ some s → Signed n h (with_sign s n)
signed_by_lem n h s = found_as (λ h s. Signed n h (with_sign s n)) h signs s (plus_a & minus_b & plus_c & minus_d & plus_e & plus_f & end)

by_signed : {n h : ℕ} {z : ℤ} → Signed n h z → (s : Sign) × (lookup h signs ≡ some s) × (with_sign s n ≡ z) × (h < 16)
by_signed plus_a = (plus, refl, refl, omega arith)
by_signed minus_b = (minus, refl, refl, omega arith)
by_signed plus_c = (plus, refl, refl, omega arith)
by_signed minus_d = (minus, refl, refl, omega arith)
by_signed plus_e = (plus, refl, refl, omega arith)
by_signed plus_f = (plus, refl, refl, omega arith)

pub no_sign : (h : ℕ) → h < 16 → lookup h signs ≡ none → h < 0xA
no_sign h l e =
    let (a, (b, (c, (d, (f, (g, _)))))) = unlisted h signs e in
    omega arith

pub sign_high : (h : ℕ) (s : Sign) → lookup h signs ≡ some s → 0xA ≤ h
sign_high h s =
    found_as (λ h s. 0xA ≤ h) h signs s (omega arith & omega arith & omega arith & omega arith & omega arith & omega arith & end)

-- THE PARTS OF A VALUE

unused_is : {p u : ℕ} → Unused p u → unused_before p ≡ u
unused_is (before_odd k e) = omega arith
unused_is (before_even k e) = omega arith

is_unused : (p : ℕ) → Unused p (unused_before p)
is_unused p = go (eqb (p % 2) 0) refl
  where
    go : (b : Bool) → eqb (p % 2) 0 ≡ b → Unused p (unused_before p)
    go true t =
        let e : unused_before p ≡ 1 = omega (arith, eqb-true (p % 2) 0 t) in
        rw e (before_even (p / 2) (omega (arith, eqb-true (p % 2) 0 t)))
    go false t =
        let e : unused_before p ≡ 0 = omega (arith, eqb-false (p % 2) 0 t) in
        rw e (before_odd (p / 2) (omega (arith, eqb-false (p % 2) 0 t)))

-- a list in three parts, the last of one element
three_parts : (u p : ℕ) (hs : List ℕ) → length hs ≡ u + p + 1 → hs ≡ take u hs ++ (take p (drop u hs) ++ (get_or hs (u + p) 0 ∷ []))
three_parts u p hs n =
    let l : drop (u + p) hs ≡ get_or hs (u + p) 0 ∷ drop (suc (u + p)) hs = drop-cons hs (u + p) 0 (omega arith) in
    let m : suc (u + p) ≡ length hs = omega arith in
    let k : drop (suc (u + p)) hs ≡ [] = rw m (drop-length hs) in
    let q : drop p (drop u hs) ≡ get_or hs (u + p) 0 ∷ [] = drop-drop p u hs ∙ l ∙ ap (λ x. get_or hs (u + p) 0 ∷ x) k in
    sym (take-append-drop u hs) ∙ ap (λ x. take u hs ++ x) (sym (take-append-drop p (drop u hs)) ∙ ap (λ x. take p (drop u hs) ++ x) q)

module _ (p : ℕ) (v : List ℕ) where
  abbrev hs : List ℕ
  hs = half_bytes v

  abbrev u : ℕ
  u = unused_before p

  abbrev ds : List ℕ
  ds = take p (drop u hs)

  -- what holds of the parts of a number that is read
  record Read (z : ℤ) : Type 0 where
    sign : Sign
    sign_is : lookup (half v (u + p)) signs ≡ some sign
    unused_zero_lem : all_below 1 (take u hs) ≡ true
    digits_good : all_below 10 ds ≡ true
    value : with_sign sign (in_base 10 ds) ≡ z

  read_parts : (z : ℤ) → packed_number p v ≡ some z → Read z
  unfolding packed_number
  read_parts z = go (lookup (half v (u + p)) signs) refl
    where
      tested : (s : Sign) (a b : Bool) → all_below 1 (take u hs) ≡ a → all_below 10 ds ≡ b → lookup (half v (u + p)) signs ≡ some s
          → (if a && b then some (with_sign s (in_base 10 ds)) else none) ≡ some z → Read z
      tested s true true h k e r = record { sign = s; sign_is = e; unused_zero_lem = h; digits_good = k; value = cc }
      tested s true false h k e r = absurd (let z : ◌≡◌ {A = ℕ} 0 1 = cc in let w : ⊥ = omega arith in w)
      tested s false b h k e r = absurd (let z : ◌≡◌ {A = ℕ} 0 1 = cc in let w : ⊥ = omega arith in w)

      go : (o : Option Sign) → lookup (half v (u + p)) signs ≡ o → read_digits (take u hs) ds o ≡ some z → Read z
      go none e r = absurd (let z : ◌≡◌ {A = ℕ} 0 1 = cc in let w : ⊥ = omega arith in w)
      go (some s) e r = tested s (all_below 1 (take u hs)) (all_below 10 ds) refl refl e r

  -- WHAT IS READ is a packed number of the account;
  pub packed_sound : (z : ℤ) → length v ≡ p / 2 + 1 → packed_number p v ≡ some z → Packed p v z
  packed_sound z n e =
      let r : Read z = read_parts z e in
      let size : length hs ≡ u + p + 1 = omega (arith, length_halves v) in
      let m : length (take u hs) ≡ u = length-take-le u hs (omega arith) in
      let o : take u hs ≡ replicate u 0 = below_zeros (take u hs) r.unused_zero_lem ∙ ap (λ n. replicate n 0) m in
      record {
        unused = u;
        is_unused = is_unused p;
        ds = ds;
        count = length-take-le p (drop u hs) (omega (arith, length-drop u hs));
        magnitude = in_base 10 ds;
        are_digits = digits_of_lem ds r.digits_good;
        sign = half v (u + p);
        is_sign = rw r.value at (signed_by_lem (in_base 10 ds) (half v (u + p)) r.sign r.sign_is);
        written = sym (bytes_again v) ∙ ap in_pairs (three_parts u p hs size ∙ ap (λ x. x ++ (ds ++ (half v (u + p) ∷ []))) o);
      }

  -- and each packed number of the account is read.
  pub packed_complete : (z : ℤ) → Packed p v z → packed_number p v ≡ some z
  unfolding packed_number
  packed_complete z w =
      let (below, is) = of_digits w.are_digits in
      let (s, found, value, small) = by_signed w.is_sign in
      let zeros : List ℕ = replicate w.unused 0 in
      let behind : List ℕ = w.ds ++ (w.sign ∷ []) in
      let e : u ≡ w.unused = unused_is w.is_unused in
      let n : length (zeros ++ behind) ≡ 2 * ((w.unused + p + 1) / 2) = simp (length-append, length-replicate, w.count) (omega arith) in
      let low : all_below 16 (w.sign ∷ []) ≡ true = rw (lt-ltb w.sign 16 small) in
      let all : all_below 16 (zeros ++ behind) ≡ true = below_append 16 zeros behind (below_more 1 16 zeros (omega arith) (zeros_below w.unused))
      (below_append 16 w.ds (w.sign ∷ []) (below_more 10 16 w.ds (omega arith) below) low) in
      let hs-are : hs ≡ zeros ++ behind = ap half_bytes w.written ∙ halves_again ((w.unused + p + 1) / 2) (zeros ++ behind) n all in
      let front : take u hs ≡ zeros = rw (hs-are, e) (take_at zeros behind w.unused (length-replicate w.unused 0)) in
      let rest : drop u hs ≡ behind = rw (hs-are, e) (drop_at zeros behind w.unused (length-replicate w.unused 0)) in
      let middle : ds ≡ w.ds = rw rest (take_at w.ds (w.sign ∷ []) p w.count) in
      let last : half v (u + p) ≡ w.sign = sym (get_or-drop u hs p 0) ∙ rw rest (get_or_at w.ds w.sign [] 0 p w.count) in
      rw (front, middle, last, found, zeros_below w.unused, below) (ap (λ n. some (with_sign s n)) (sym is) ∙ ap some value)

  -- WHAT IS NOT READ has a bad digit, sign or unused half-byte,
  sign_half : half v (u + p) < 16
  sign_half = let e : u + p ≡ 2 * ((u + p) / 2) + 1 = omega arith in rw e (right_half v ((u + p) / 2))

  short : (n : ℕ) (l : List ℕ) (i : ℕ) → i < length (take n l) → i < n
  short n l i h = omega (arith, length-take n l)

  bad_unused : all_below 1 (take u hs) ≡ false → BadDigit p v
  bad_unused h =
      let (i, l, k) = not_below 1 (take u hs) h in
      let m : i < u = short u hs i l in
      let e : u ≡ 1 = omega arith in
      let o : i ≡ 0 = omega arith in
      let q : get_or (take u hs) i 0 ≡ half v 0 = get_or-take u hs i 0 m ∙ ap (half v) o in
      R.unused (rw e at (is_unused p)) (λ z. omega arith)

  bad_digit : all_below 10 ds ≡ false → BadDigit p v
  bad_digit h =
      let (i, l, k) = not_below 10 ds h in
      let m : i < p = short p (drop u hs) i l in
      let q : get_or ds i 0 ≡ half v (u + i) = get_or-take p (drop u hs) i 0 m ∙ get_or-drop u hs i 0 in
      let g : 9 < half v (u + i) = omega arith in
      R.digit i (is_unused p) m g

  pub none_bad : packed_number p v ≡ none → BadDigit p v
  unfolding packed_number
  none_bad = go (lookup (half v (u + p)) signs) refl
    where
      tested : (s : Sign) (a b : Bool) → all_below 1 (take u hs) ≡ a → all_below 10 ds ≡ b → (if a && b then some (with_sign s (in_base 10 ds)) else none) ≡ none → BadDigit p v
      tested s true true h k r = absurd (let z : ◌≡◌ {A = ℕ} 0 1 = cc in let w : ⊥ = omega arith in w)
      tested s true false h k r = bad_digit k
      tested s false b h k r = bad_unused h

      go : (o : Option Sign) → lookup (half v (u + p)) signs ≡ o → read_digits (take u hs) ds o ≡ none → BadDigit p v
      go none e r = R.sign (is_unused p) (no_sign (half v (u + p)) sign_half e)
      go (some s) e r = tested s (all_below 1 (take u hs)) (all_below 10 ds) refl refl r

  -- and what is read has none.
  pub some_good : (z : ℤ) → packed_number p v ≡ some z → BadDigit p v → ⊥
  some_good z e = go (read_parts z e)
    where
      at : {w : ℕ} → Unused p w → (i : ℕ) → half v (w + i) ≡ half v (u + i)
      at o i = ap (λ n. half v (n + i)) (sym (unused_is o))

      go : Read z → BadDigit p v → ⊥
      go r (R.unused o n) =
          let h : 0 < u = omega (arith, unused_is o) in
          let l : get_or (take u hs) 0 0 < 1 = below_at 1 (take u hs) 0 (omega arith) r.unused_zero_lem in
          n (omega (arith, get_or-take u hs 0 0 h))
      go r (R.digit i o l g) =
          let k : get_or ds i 0 < 10 = below_at 10 ds i (omega arith) r.digits_good in
          omega (arith, at o i, get_or-take p (drop u hs) i 0 l, get_or-drop u hs i 0)
      go r (R.sign o l) = omega (arith, at o p, sign_high (half v (u + p)) r.sign r.sign_is)
