-- The ways through an item's measuring: each says which case of a definition an answer is, by what the code knows there. A function's
-- ways are a ruleset.
-- Assumes nothing.
use Rattle.std.specs.Prelude.{if◌then◌else◌}
use Rattle.std.proofs.Common.{ℕ, ◌+◌, ◌-◌, ◌*◌, ◌<◌, ◌≤◌, ◌≡◌, refl, sym, subst, Bool, true, false, List, [], ◌∷◌, get_or, length, take, drop, length-take, length-drop, arith}
use native.Mathlib.Nat.{zero-add}
use lib.Dec.{leb, eqb}
use borrow.Author.Rules.{part_to_end}
use borrow.Author.Tests.{lt-ltb, le-ltb, le-leb, lt-leb, eq-eqb, ne_eqb}
use Rattle.fdoca.specs.Basics.{big, in_base}
use Rattle.fdoca.specs.FieldType.{LengthField, signed_two, unsigned_one, Layout}
use Rattle.fdoca.specs.Item.{Measured, refused, item, Space, unbounded, limited, reserved, space, width, is_over, unused, measure_body, measure_counted, measure_value, indicated, measure_nullable, measure_item}
use Rattle.items.specs.Answer.{measure_sent, measure_ranged, measure_indicator}
use Rattle.fdoca.proofs.Tests.{by_test}
use Rattle.fdoca.proofs.Within.{Within, within_value}

-- what is sent is the value with the space that it leaves unused
sent_body : (sp : Space) (w L size left : ℕ) → L + unused sp L ≡ size → measure_sent w L size left ≡ measure_body sp w L left
unfolding measure_sent measure_body
sent_body sp w L size left e = let d : size - L ≡ unused sp L = omega arith in simp (e, d)

over : (b : Bool) (f L : ℕ) → f < L → is_over (if b then reserved f else limited f) L ≡ true
over true f L h = lt-ltb f L h
over false f L h = lt-ltb f L h

module _ (mode f w L left : ℕ) where
  pub unbounded_sent : f ≡ 0 → measure_sent w L L left ≡ measure_ranged (space mode f) w L left
  unfolding measure_ranged space
  unbounded_sent z = simp (eq-eqb _ _ z) (sent_body unbounded w L L left (omega arith))

  pub over_refused : (f ≡ 0 → ⊥) → f < L → refused 14 ≡ measure_ranged (space mode f) w L left
  unfolding measure_ranged space
  over_refused z o = simp (ne_eqb _ _ z, over (eqb mode 0) f L o)

  pub reserved_sent : (f ≡ 0 → ⊥) → L ≤ f → mode ≡ 0 → measure_sent w L f left ≡ measure_ranged (space mode f) w L left
  unfolding measure_ranged space
  reserved_sent z o y = simp (ne_eqb _ _ z, eq-eqb _ _ y, le-ltb _ _ o) (sent_body (reserved f) w L f left (omega arith))

  pub limited_sent : (f ≡ 0 → ⊥) → L ≤ f → (mode ≡ 0 → ⊥) → measure_sent w L L left ≡ measure_ranged (space mode f) w L left
  unfolding measure_ranged space
  limited_sent z o y = simp (ne_eqb _ _ z, ne_eqb _ _ y, le-ltb _ _ o) (sent_body (limited f) w L L left (omega arith))

pub ruleset ranged_ways = (unbounded_sent, over_refused, reserved_sent, limited_sent)

-- the length fields, as the bytes that they have
one_byte : (s : List ℕ) → 1 ≤ length s → big (take 1 s) ≡ get_or s 0 0
unfolding big in_base
one_byte [] l = absurd (let z : ⊥ = omega arith in z)
one_byte (a ∷ s) l = omega arith

two_bytes_lem : (s : List ℕ) → 2 ≤ length s → big (take 2 s) ≡ get_or s 0 0 * 256 + get_or s 1 0
unfolding big in_base
two_bytes_lem [] l = absurd (let z : ⊥ = omega arith in z)
two_bytes_lem (a ∷ []) l = absurd (let z : ⊥ = omega arith in z)
two_bytes_lem (a ∷ b ∷ s) l = omega arith

behind : (n : ℕ) (s : List ℕ) → length (take (length s - n) (drop n s)) ≡ length s - n
behind n s = simp (length-take, length-drop) (omega arith)

module _ (sp : Space) (s : List ℕ) where
  pub counted_short : (k : LengthField) → length s < width k → refused 13 ≡ measure_counted k sp s
  unfolding measure_counted
  counted_short k l = simp (lt-ltb _ _ l)

  pub one_ranged : (L : ℕ) → 1 ≤ length s → L ≡ get_or s 0 0 → measure_ranged sp 1 L (length (take (length s - 1) (drop 1 s))) ≡ measure_counted unsigned_one sp s
  unfolding measure_counted measure_ranged
  one_ranged L l e = simp (le-ltb _ _ l, one_byte s l, ← e, behind 1 s)

  pub two_negative : (k : ℕ) → 2 ≤ length s → 128 ≤ get_or s 0 0 → refused 14 ≡ measure_counted signed_two sp s
  unfolding measure_counted
  two_negative k l n = simp (le-ltb _ _ l, two_bytes_lem s l, le-leb 0x8000 (get_or s 0 0 * 256 + get_or s 1 0) (omega arith))

  pub two_ranged : (a b : ℕ) → 2 ≤ length s → get_or s 0 0 < 128 → a ≡ get_or s 0 0 → b ≡ get_or s 1 0 → b < 256 → measure_ranged sp 2 (a * 256 + b) (length (take (length s - 2) (drop 2 s))) ≡ measure_counted signed_two sp s
  unfolding measure_counted measure_ranged
  two_ranged a b l n e d k =
      let q : big (take 2 s) ≡ a * 256 + b = omega (arith, two_bytes_lem s l) in
      simp (le-ltb _ _ l, q, lt-leb 0x8000 (a * 256 + b) (omega arith), behind 2 s)

pub ruleset counted_ways = (counted_short, one_ranged, two_negative, two_ranged)

-- what a null indicator tells
module _ (s : List ℕ) where
  pub no_byte : length s < 1 → refused 13 ≡ measure_indicator true s
  unfolding measure_indicator
  no_byte l = go s l
    where
      go : (s : List ℕ) → length s < 1 → refused 13 ≡ measure_indicator true s
      go [] l = refl
      go (a ∷ s) l = absurd (let z : ⊥ = omega arith in z)

  module _ (l : 1 ≤ length s) where
    first_byte : (if eqb (get_or s 0 0) 0 then item false 1 0 0 else if leb 128 (get_or s 0 0) then item true 1 0 0 else refused 24) ≡ measure_indicator true s
    unfolding measure_indicator
    first_byte = go s l
      where
        go : (s : List ℕ) → 1 ≤ length s
            → (if eqb (get_or s 0 0) 0 then item false 1 0 0 else if leb 128 (get_or s 0 0) then item true 1 0 0 else refused 24) ≡ measure_indicator true s
        go [] l = absurd (let z : ⊥ = omega arith in z)
        go (a ∷ s) l = refl

    pub no_null : get_or s 0 0 ≡ 0 → item false 1 0 0 ≡ measure_indicator true s
    no_null k = simp (eq-eqb _ _ k) at first_byte

    pub neither : (get_or s 0 0 ≡ 0 → ⊥) → get_or s 0 0 < 128 → refused 24 ≡ measure_indicator true s
    neither z k = simp (ne_eqb _ _ z, lt-leb _ _ k) at first_byte

    pub a_null : 128 ≤ get_or s 0 0 → item true 1 0 0 ≡ measure_indicator true s
    a_null k = simp (ne_eqb (get_or s 0 0) 0 (λ z. omega arith), le-leb _ _ k) at first_byte

pub ruleset indicator_ways = (no_byte, no_null, neither, a_null)

-- an item by what its null indicator tells: none, a null, or the value behind so many bytes
abbrev moved : ℕ → Measured → Measured
moved k (refused n) = refused n
moved k (item z p v r) = item z (k + p) v r

abbrev following : Measured → (ℕ → Measured) → Measured
following (refused n) g = refused n
following (item true p v r) g = item true p v r
following (item false p v r) g = moved p (g p)

module _ (l : Layout) (mode f : ℕ) where
  moved_0 : (x : Measured) → x ≡ moved 0 x
  moved_0 (refused n) = refl
  moved_0 (item z p v r) = rw zero-add

  moved_1 : (x : Measured) → indicated x ≡ moved 1 x
  moved_1 (refused n) = refl
  moved_1 (item z p v r) = refl

  by_indicator : (b : Bool) (s : List ℕ) → measure_item b l mode f s ≡ following (measure_indicator b s) (λ k. measure_value l mode f (drop k s))
  unfolding measure_indicator measure_item measure_nullable
  by_indicator false s = moved_0 (measure_value l mode f s)
  by_indicator true [] = refl
  by_indicator true (b ∷ s) = go (eqb b 0) (leb 128 b)
    where
      go : (z t : Bool) → (if z then indicated (measure_value l mode f s) else if t then item true 1 0 0 else refused 24)
          ≡ following (if z then item false 1 0 0 else if t then item true 1 0 0 else refused 24) (λ k. measure_value l mode f (drop k (b ∷ s)))
      go true t = moved_1 (measure_value l mode f s)
      go false true = refl
      go false false = refl

within_indicator : (b : Bool) (s : List ℕ) → Within (length s) (measure_indicator b s)
unfolding measure_indicator
within_indicator false s = omega arith
within_indicator true [] = tt
within_indicator true (b ∷ s) =
    by_test (Within (length (b ∷ s))) (eqb b 0) (λ t. omega arith) (λ t. by_test (Within (length (b ∷ s))) (leb 128 b) (λ u. omega arith) (λ u. tt))

module _ (b : Bool) (l : Layout) (mode f : ℕ) (s : List ℕ) where
  pub refused_indicator : (n : ℕ) → refused n ≡ measure_indicator b s → refused n ≡ measure_item b l mode f s
  refused_indicator n h = rw (by_indicator l mode f b s, ← h)

  pub null_item : item true 1 0 0 ≡ measure_indicator b s → item true 1 0 0 ≡ measure_item b l mode f s
  null_item h = rw (by_indicator l mode f b s, ← h)

  module _ (k : ℕ) (h : item false k 0 0 ≡ measure_indicator b s) where
    pub skip_inside : k ≤ length s
    skip_inside = let w : k + 0 + 0 ≤ length s = subst (Within (length s)) (sym h) (within_indicator b s) in omega arith

    pub refused_value : (n : ℕ) → refused n ≡ measure_value l mode f (take (length s - k) (drop k s)) → refused n ≡ measure_item b l mode f s
    refused_value n e = rw (by_indicator l mode f b s, ← h, ← part_to_end s k, ← e)

    module _ (z : Bool) (p v r : ℕ) (e : item z p v r ≡ measure_value l mode f (take (length s - k) (drop k s))) where
      pub lead_inside : k + p ≤ length s
      lead_inside =
          let w : p + v + r ≤ length (take (length s - k) (drop k s)) = subst (Within (length (take (length s - k) (drop k s)))) (sym e) (within_value l mode f (take (length s - k) (drop k s))) in
          omega (arith, behind k s, skip_inside)

      pub item_behind : item z (k + p) v r ≡ measure_item b l mode f s
      item_behind = rw (by_indicator l mode f b s, ← h, ← part_to_end s k, ← e)

pub ruleset measured_ways = (refused_indicator, null_item, skip_inside, refused_value, lead_inside, item_behind)
