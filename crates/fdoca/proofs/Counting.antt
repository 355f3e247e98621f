-- The counts of document 01's table are unique where no id is described twice: an SDA, RLO or GDA stands for one number of items, and so does the beginning
-- of a row.
-- Assumes nothing.
use mathlib.Core.Path.{◌≡◌, refl, ap}
use mathlib.Core.Logic.{◌≢◌}
use Prim.Native.Nat.{ℕ, zero, suc, ◌+◌, ◌*◌, ◌≤◌, ◌<◌}
use native.Mathlib.Omega.{arith}
use mathlib.Core.List.{List}
use Rattle.fdoca.specs.Reasons.{length_byte, rlo_byte, gda_byte, cpt_byte, Is, Describes, InRow, taken, factor, Refers, extent, Lower, one, two, three, Counts, single, array, row, Adds, kept, replaced, column, HasGroup, UpTo, start, group, continued}
use Rattle.fdoca.proofs.Tests.{by_order}
use Rattle.fdoca.proofs.TripletTests.{clash, row_clash}

-- No two of the first b triplets describe the same id.
abbrev pub Unique : List ℕ → ℕ → Type 0
Unique d b = (id q u : ℕ) → q < b → u < b → Describes d id q → Describes d id u → q ≡ u

-- Each of the first b triplets stands for one number of items.
abbrev pub Same : List ℕ → ℕ → Type 0
Same d b = (q n m : ℕ) → q < b → Counts d q n → Counts d q m → n ≡ m

module _ {d : List ℕ} where
  pub lower_same : {q l m : ℕ} → Lower d q l → Lower d q m → l ≡ m
  lower_same (one e) (one h) = refl
  lower_same (one e) (two h) = absurd (let z : ⊥ = omega arith in z)
  lower_same (one e) (three h) = absurd (let z : ⊥ = omega arith in z)
  lower_same (two e) (one h) = absurd (let z : ⊥ = omega arith in z)
  lower_same (two e) (two h) = refl
  lower_same (two e) (three h) = absurd (let z : ⊥ = omega arith in z)
  lower_same (three e) (one h) = absurd (let z : ⊥ = omega arith in z)
  lower_same (three e) (two h) = absurd (let z : ⊥ = omega arith in z)
  lower_same (three e) (three h) = refl

  pub lower_long : {q l : ℕ} → Lower d q l → length_byte d q ≢ 12
  lower_long (one e) h = omega arith
  lower_long (two e) h = omega arith
  lower_long (three e) h = omega arith

  -- the triplets of a row
  pub up_in_row : {r j k n : ℕ} → UpTo d r j k n → InRow d r j
  up_in_row (start i) = record { head = i; behind = omega arith; continued = λ x h l. absurd (let z : ⊥ = omega arith in z) }
  up_in_row (group u g a) = up_in_row u
  up_in_row (continued {j = j} u e i) =
      let v = up_in_row u in
      record {
        head = v.head;
        behind = omega (arith, v.behind);
        continued = λ x h l. by_order x (suc j) (λ a. v.continued x h (omega arith)) (λ e. rw e i) (λ a. absurd (let z : ⊥ = omega arith in z));
      }

  -- a triplet belongs to one row
  not_later : {r u j : ℕ} → InRow d r j → InRow d u j → r < u → ⊥
  not_later {r} {u} {j} a b h = row_clash b.head (a.continued u h b.behind) (omega arith) (omega arith)

  pub one_row : {r u j : ℕ} → InRow d r j → InRow d u j → r ≡ u
  one_row {r} {u} {j} a b = by_order r u (λ h. absurd (not_later a b h)) (λ e. e) (λ h. absurd (not_later b a h))

  -- and a row has one end
  not_past : {r i j : ℕ} → InRow d r i → InRow d r j → (Is d cpt_byte (suc i) → ⊥) → i < j → ⊥
  not_past {r} {i} {j} a b n h = n (b.continued (suc i) (omega (arith, a.behind)) h)

  pub one_end : {r i j : ℕ} → InRow d r i → InRow d r j → (Is d cpt_byte (suc i) → ⊥) → (Is d cpt_byte (suc j) → ⊥) → i ≡ j
  one_end {r} {i} {j} a b n m = by_order i j (λ h. absurd (not_past a b n h)) (λ e. e) (λ h. absurd (not_past b a m h))

  -- the counts of a row, where those of the triplets before it are unique
  module _ (r : ℕ) (unique : Unique d r) (same : Same d r) where
    referred_same : {id q u : ℕ} → Refers d r id q → Refers d r id u → q ≡ u
    referred_same {id} {q} {u} a b = unique id q u a.earlier b.earlier a.describes b.describes

    not_both : {A : Type 0} → Is d rlo_byte r → Is d gda_byte r → A
    not_both a b = absurd (clash a b (omega arith))

    adds_same : {j k n m : ℕ} → Adds d r j k n → Adds d r j k m → n ≡ m
    adds_same (kept {j = j} {k = k} {q = q} {n = n} w a e c) (kept {q = u} {n = m} v b h x) =
        let q≡u : q ≡ u = referred_same a b in
        ap (λ y. factor d j k * y) (same q n m a.earlier c (rw q≡u x))
    adds_same (kept w a e c) (replaced v b h i l) = absurd (let z : ⊥ = omega arith in z)
    adds_same (kept w a e c) (column v) = not_both w v
    adds_same (replaced w a h i l) (kept v b e c) = absurd (let z : ⊥ = omega arith in z)
    adds_same (replaced {j = j} {k = k} {q = q} w a h i l) (replaced {q = u} v b g x y) =
        let q≡u : q ≡ u = referred_same a b in
        ap (λ y. factor d j k * (taken d j k * y)) (lower_same l (rw q≡u y))
    adds_same (replaced w a h i l) (column v) = not_both w v
    adds_same (column w) (kept v b e c) = not_both v w
    adds_same (column w) (replaced v b h i l) = not_both v w
    adds_same (column w) (column v) = refl

  up_same_at : {r j k n q i l m : ℕ} → Unique d r → Same d r → UpTo d r j k n → UpTo d q i l m → q ≡ r → i ≡ j → l ≡ k → n ≡ m
  up_same_at x y (start i) (start h) a b c = refl
  up_same_at x y (start i) (group v h q) a b c = absurd (let z : ⊥ = omega arith in z)
  up_same_at x y (start i) (continued u e h) a b c = absurd (row_clash i (rw b at h) (omega arith) (omega arith))
  up_same_at x y (group u g p) (start h) a b c = absurd (let z : ⊥ = omega arith in z)
  up_same_at x y (group {r = r} {k = k} {n = n} {m = s} u g p) (group {k = l} {n = m} {m = t} v h q) a b c =
      let l≡k : l ≡ k = omega arith in
      let e₁ : n ≡ m = up_same_at x y u v a b l≡k in
      let e₂ : s ≡ t = adds_same r x y p (rw (a, b, l≡k) at q) in
      rw (e₁, e₂)
  up_same_at x y (group u g p) (continued v f h) a b c = absurd (let z : ⊥ = omega arith in z)
  up_same_at x y (continued u e i) (start h) a b c = absurd (row_clash (rw b at h) i (omega arith) (omega arith))
  up_same_at x y (continued u e i) (group v h q) a b c = absurd (let z : ⊥ = omega arith in z)
  up_same_at x y (continued {j = j} {k = k} u e i) (continued {j = o} {k = l} v f h) a b c =
      let o≡j : o ≡ j = omega arith in
      let l≡k : l ≡ k = omega (arith, ap (length_byte d) o≡j) in
      up_same_at x y u v a o≡j l≡k

  up_same : {r j k n m : ℕ} → Unique d r → Same d r → UpTo d r j k n → UpTo d r j k m → n ≡ m
  up_same x y u v = up_same_at x y u v refl refl refl

  -- the last group that a row counts
  last_group_at : {r j k l n : ℕ} → UpTo d r j l n → l ≡ suc k → (a : ℕ) × (b : ℕ) × UpTo d r j k a × HasGroup d j k × Adds d r j k b × (n ≡ a + b)
  last_group_at (start h) e = absurd (let z : ⊥ = omega arith in z)
  last_group_at {k = k} (group {k = i} {n = a} {m = b} u g p) e =
      let q : i ≡ k = omega arith in
      (a, b, rw q at u, rw q at g, rw q at p, refl)
  last_group_at (continued u f h) e = absurd (let z : ⊥ = omega arith in z)

  pub last_counted : {r j k n : ℕ} → UpTo d r j (suc k) n → (a : ℕ) × (b : ℕ) × UpTo d r j k a × HasGroup d j k × Adds d r j k b × (n ≡ a + b)
  last_counted u = last_group_at u refl

  row_same : {r n m : ℕ} → Unique d r → Same d r → Counts d r n → Counts d r m → n ≡ m
  row_same x y (single i e) (single h f) = refl
  row_same x y (single i e) (array h l) = absurd (lower_long l e)
  row_same x y (single i e) (row u f g) = absurd (row_clash (up_in_row u).head i (omega arith) (omega arith))
  row_same x y (array i l) (single h f) = absurd (lower_long l f)
  row_same x y (array {q = q} i l) (array h m) = ap (λ z. extent d q 0 * z) (lower_same l m)
  row_same x y (array i l) (row u f g) = absurd (row_clash (up_in_row u).head i (omega arith) (omega arith))
  row_same x y (row u f g) (single h e) = absurd (row_clash (up_in_row u).head h (omega arith) (omega arith))
  row_same x y (row u f g) (array h l) = absurd (row_clash (up_in_row u).head h (omega arith) (omega arith))
  row_same x y (row {j = i} {k = k} u f g) (row {j = j} {k = l} v p q) =
      let e₁ : i ≡ j = one_end (up_in_row u) (up_in_row v) g q in
      let e₂ : length_byte d i ≡ length_byte d j = ap (length_byte d) e₁ in
      let e₃ : k ≡ l = omega arith in
      up_same x y u (rw (e₁, e₃) v)

  unique_before : {b c : ℕ} → c ≤ b → Unique d b → Unique d c
  unique_before l x id q u h k = x id q u (omega arith) (omega arith)

  -- Where no id is described twice they do,
  counts_same : (b : ℕ) → Unique d b → Same d b
  counts_same zero x q n m h c e = absurd (let z : ⊥ = omega arith in z)
  counts_same (suc b) x q n m h c e =
      let y : Unique d q = unique_before (omega arith) x in
      let z : Same d q = λ u a f k. counts_same b (unique_before (omega arith) x) u a f (omega arith) in
      row_same y z c e

  -- and so do the next one, and the beginning of a row that starts there.
  pub up_to_same : {r j k n m : ℕ} → Unique d r → UpTo d r j k n → UpTo d r j k m → n ≡ m
  up_to_same {r} x u v = up_same x (counts_same r x) u v

  pub count_same : {r n m : ℕ} → Unique d r → Counts d r n → Counts d r m → n ≡ m
  count_same {r} x u v = row_same x (counts_same r x) u v
