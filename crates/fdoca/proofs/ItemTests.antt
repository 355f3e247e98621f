-- Measuring by its tests: each test that refuses bytes, by itself and with its step and number. A refusal is that of the earliest test that fails, and
-- where measuring finds an item none fails.
-- Assumes nothing.
use mathlib.Core.Path.{◌≡◌, sym, ◌∙◌}
use Prim.Native.Nat.{ℕ, suc, ◌+◌, ◌-◌, ◌≤◌, ◌<◌, min}
use native.Mathlib.Omega.{arith}
use mathlib.Core.Bool.{true, false, true≢false}
use mathlib.Core.List.{List, [], ◌∷◌}
use lib.Dec.{eqb}
use lib.ListN.{length, take}
use borrow.Author.Tests.{ltb-true, ltb-false, lt-ltb}
use Rattle.fdoca.specs.Basics.{big}
use Rattle.fdoca.specs.FieldType.{LengthField, Layout, fixed, counted, terminated}
use Rattle.fdoca.specs.Item.{Measured, refused, item, Space, unbounded, limited, reserved, space, width, is_negative, is_over, unused, before_zero, measure_fixed, measure_body, measure_counted, measure_terminated, measure_value}
use Rattle.fdoca.proofs.Tests.{by_test, by_le, by_lt}

pub before_zero_within : (s : List ℕ) → before_zero s ≤ length s
unfolding before_zero
before_zero_within [] = omega arith
before_zero_within (b ∷ s) =
    let q : before_zero s ≤ length s = before_zero_within s in
    by_test (λ n. n ≤ suc (length s)) (eqb b 0) (λ t. omega arith) (λ t. omega arith)

-- how many bytes follow an L in range
abbrev pub sent : Space → ℕ → ℕ
sent unbounded L = L
sent (limited F) L = L
sent (reserved F) L = F

sent_unused : (sp : Space) (L : ℕ) → is_over sp L ≡ false → L + unused sp L ≡ sent sp L
sent_unused unbounded L h = omega arith
sent_unused (limited F) L h = omega arith
sent_unused (reserved F) L h = omega (arith, ltb-false F L h)

-- no zero byte is found, and the bytes end too early to say that there is none
abbrev pub CutOff : List ℕ → Space → Type 0
CutOff v unbounded = length v ≤ before_zero v
CutOff v (limited F) = (length v ≤ before_zero v) × (length v ≤ F)
CutOff v (reserved F) = length v ≤ F

-- the tests against the bytes v behind any null indicator
pub data Against (F : ℕ) (v : List ℕ) : Layout → Space → (step number : ℕ) → Type 0 where
  short : {sp : Space} → length v < F → Against F v fixed sp 3 13
  short_L : {k : LengthField} {sp : Space} → length v < width k → Against F v (counted k) sp 1 13
  negative : {k : LengthField} {sp : Space} → width k ≤ length v → is_negative k (big (take (width k) v)) ≡ true → Against F v (counted k) sp 2 14
  over_F : {k : LengthField} {sp : Space} → width k ≤ length v → is_over sp (big (take (width k) v)) ≡ true → Against F v (counted k) sp 2 14
  short_body : {k : LengthField} {sp : Space} → width k ≤ length v → length v < width k + sent sp (big (take (width k) v))
      → Against F v (counted k) sp 3 13
  no_zero : {sp : Space} → CutOff v sp → Against F v terminated sp 3 13
  endless : {sp : Space} → is_over sp (before_zero v) ≡ true → Against F v terminated sp 3 15

-- each belongs to a step behind that of the null indicator
pub behind_indicator : {F i m : ℕ} {v : List ℕ} {l : Layout} {sp : Space} → Against F v l sp i m → 1 ≤ i
behind_indicator (short h) = omega arith
behind_indicator (short_L h) = omega arith
behind_indicator (negative h t) = omega arith
behind_indicator (over_F h t) = omega arith
behind_indicator (short_body h l) = omega arith
behind_indicator (no_zero c) = omega arith
behind_indicator (endless e) = omega arith

-- a reason with its step, before which there is none, and whose number the others of its step have
pub record Earliest (P : ℕ → ℕ → Type 0) (n : ℕ) : Type 0 where
  pub step : ℕ
  pub reason : P step n
  pub others : (i m : ℕ) → P i m → (step ≤ i) × (i ≡ step → m ≡ n)

-- a refusal is that of the earliest reason, and an item has none
abbrev pub Judged : (ℕ → ℕ → Type 0) → Measured → Type 0
Judged P (refused n) = Earliest P n
Judged P (item z p v r) = (i m : ℕ) → P i m → ⊥

-- two ways to say the same reasons
pub judged_map : {P Q : ℕ → ℕ → Type 0} (x : Measured) → ((i m : ℕ) → P i m → Q i m) → ((i m : ℕ) → Q i m → P i m) → Judged P x → Judged Q x
judged_map (refused n) to back h =
    record { step = h.step; reason = to h.step n h.reason; others = λ i m w. h.others i m (back i m w) }
judged_map (item z p v r) to back h = λ i m w. h i m (back i m w)

module _ (F : ℕ) (v : List ℕ) where
  judged_fixed : (sp : Space) → Judged (Against F v fixed sp) (measure_fixed F v)
  unfolding measure_fixed
  judged_fixed sp =
      by_le (Judged (Against F v fixed sp)) F (length v) (λ h i m w. none h w) (λ h. record { step = 3; reason = short h; others = λ i m w. only w })
    where
      none : {i m : ℕ} → F ≤ length v → Against F v fixed sp i m → ⊥
      none h (short k) = omega arith

      only : {i m : ℕ} → Against F v fixed sp i m → (3 ≤ i) × (i ≡ 3 → m ≡ 13)
      only (short k) = omega arith

  module _ (k : LengthField) (sp : Space) where
    abbrev L : ℕ
    L = big (take (width k) v)

    abbrev W : ℕ → ℕ → Type 0
    W = Against F v (counted k) sp

    from_1 : {i m : ℕ} → W i m → (1 ≤ i) × (i ≡ 1 → m ≡ 13)
    from_1 (short_L h) = omega arith
    from_1 (negative h t) = omega arith
    from_1 (over_F h t) = omega arith
    from_1 (short_body h l) = omega arith

    from_2 : {i m : ℕ} → width k ≤ length v → W i m → (2 ≤ i) × (i ≡ 2 → m ≡ 14)
    from_2 g (short_L h) = absurd (let z : ⊥ = omega arith in z)
    from_2 g (negative h t) = omega arith
    from_2 g (over_F h t) = omega arith
    from_2 g (short_body h l) = omega arith

    from_3 : {i m : ℕ} → width k ≤ length v → is_negative k L ≡ false → is_over sp L ≡ false → W i m
        → (length v < width k + sent sp L) × (3 ≤ i) × (i ≡ 3 → m ≡ 13)
    from_3 g t u (short_L h) = absurd (let z : ⊥ = omega arith in z)
    from_3 g t u (negative h e) = absurd (true≢false (sym e ∙ t))
    from_3 g t u (over_F h e) = absurd (true≢false (sym e ∙ u))
    from_3 g t u (short_body h l) = omega arith

    judged_counted : Judged W (measure_counted k sp v)
    unfolding measure_counted measure_body
    judged_counted =
        by_lt (Judged W) (length v) (width k) (λ h. record { step = 1; reason = short_L h; others = λ i m w. from_1 w })
        (λ h. by_test (Judged W) (is_negative k L) (λ t. record { step = 2; reason = negative h t; others = λ i m w. from_2 h w })
        (λ t. by_test (Judged W) (is_over sp L) (λ u. record { step = 2; reason = over_F h u; others = λ i m w. from_2 h w })
        (λ u. by_le (Judged W) (L + unused sp L) (length v - width k)
        (λ l i m w. omega (arith, (from_3 h t u w).0, sent_unused sp L u))
        (λ l. record {
          step = 3;
          reason = short_body h (omega (arith, sent_unused sp L u));
          others = λ i m w. let q = from_3 h t u w in (q.1, q.2);
        }))))

  module _ (sp : Space) where
    abbrev E : ℕ → ℕ → Type 0
    E = Against F v terminated sp

    abbrev Past : Type 0
    Past = is_over sp (before_zero v) ≡ true

    ended : (CutOff v sp → ⊥) → (Past → ⊥) → (i m : ℕ) → E i m → ⊥
    ended h k i m (no_zero c) = h c
    ended h k i m (endless e) = k e

    first_13 : CutOff v sp → (Past → ⊥) → Earliest E 13
    first_13 h k = record { step = 3; reason = no_zero h; others = λ i m w. only w }
      where
        only : {i m : ℕ} → E i m → (3 ≤ i) × (i ≡ 3 → m ≡ 13)
        only (no_zero c) = omega arith
        only (endless e) = absurd (k e)

    first_15 : Past → (CutOff v sp → ⊥) → Earliest E 15
    first_15 h k = record { step = 3; reason = endless h; others = λ i m w. only w }
      where
        only : {i m : ℕ} → E i m → (3 ≤ i) × (i ≡ 3 → m ≡ 15)
        only (no_zero c) = absurd (k c)
        only (endless e) = omega arith

  judged_terminated : (sp : Space) → Judged (Against F v terminated sp) (measure_terminated sp v)
  unfolding measure_terminated
  judged_terminated unbounded =
      by_lt (Judged (Against F v terminated unbounded)) (before_zero v) (length v)
      (λ h. ended unbounded (λ c. omega arith) (λ e. true≢false (sym e))) (λ h. first_13 unbounded h (λ e. true≢false (sym e)))
  judged_terminated (limited G) =
      let q : before_zero v ≤ length v = before_zero_within v in
      by_lt (Judged (Against F v terminated (limited G))) (before_zero v) (min (G + 1) (length v))
      (λ h. ended (limited G) (λ c. omega arith) (λ e. omega (arith, ltb-true G (before_zero v) e)))
      (λ h. by_lt (Judged (Against F v terminated (limited G))) (length v) (G + 1)
      (λ l. first_13 (limited G) (omega arith) (λ e. omega (arith, ltb-true G (before_zero v) e)))
      (λ l. first_15 (limited G) (lt-ltb G (before_zero v) (omega arith)) (λ c. omega arith)))
  judged_terminated (reserved G) =
      let q : before_zero v ≤ length v = before_zero_within v in
      by_lt (Judged (Against F v terminated (reserved G))) (length v) (G + 1)
      (λ h. first_13 (reserved G) (omega arith) (λ e. omega (arith, ltb-true G (before_zero v) e)))
      (λ h. by_le (Judged (Against F v terminated (reserved G))) (before_zero v) G
      (λ l. ended (reserved G) (λ c. omega arith) (λ e. omega (arith, ltb-true G (before_zero v) e)))
      (λ l. first_15 (reserved G) (lt-ltb G (before_zero v) l) (λ c. omega arith)))

  pub judged_value : (l : Layout) (mode : ℕ) → Judged (Against F v l (space mode F)) (measure_value l mode F v)
  unfolding measure_value
  judged_value fixed mode = judged_fixed (space mode F)
  judged_value (counted k) mode = judged_counted k (space mode F)
  judged_value terminated mode = judged_terminated (space mode F)
