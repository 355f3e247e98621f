-- A descriptor that may end in a group with repetition 0: the group is the last of the last triplet, what it refers to is described, and 22 is told of it
-- alone.
-- Assumes nothing.
use Rattle.std.specs.Prelude.{if◌then◌else◌}
use mathlib.Core.Path.{◌≡◌, refl, sym, ap, ◌∙◌}
use mathlib.Core.Logic.{◌⊎◌, inl, inr}
use Prim.Native.Nat.{ℕ, zero, suc, ◌+◌, ◌-◌, ◌*◌, ◌≤◌, ◌<◌}
use native.Mathlib.Nat.{zero-mul}
use native.Mathlib.Omega.{arith}
use mathlib.Core.Bool.{Bool, true, false, ◌&&◌, true≢false}
use mathlib.Core.List.{List, [], ◌∷◌}
use mathlib.Core.Option.{Option, none, some}
use lib.Dec.{eqb}
use lib.ListN.{length, get_or}
use borrow.Author.Tests.{eqb-true, eq-eqb}
use Rattle.fdoca.specs.Basics.{is_empty, lookup}
use Rattle.fdoca.specs.Triplet as T
use Rattle.fdoca.specs.Triplet.{Triplet, triplets, last_place, Kind, rlo, gda}
use Rattle.fdoca.specs.Item.{Field, field_length}
use Rattle.fdoca.specs.Check as C
use Rattle.fdoca.specs.Check.{Entry, State}
use Rattle.fdoca.specs.Unfolding as U
use Rattle.fdoca.specs.Unfolding.{Layouts, rows_of, rows_at_end, last_group, repeated, endless, unfold_triplets}
use Rattle.fdoca.specs.Reasons as R
use Rattle.fdoca.specs.Reasons.{place, length_byte, There, Is, InRow, HasGroup, taken, factor, EndsDescriptor, Adds, kept, replaced, column, UpTo, start, group, continued, NoData, none_left, one_more, Endless, takes_no_data, TooManyUpTo}
use Rattle.fdoca.specs.Between.{triplets_at, row_counted, state}
use Rattle.fdoca.proofs.Tests.{and_left, and_right}
use Rattle.fdoca.proofs.Triplets.{triplets_end, triplets_left, triplets_next}
use Rattle.fdoca.proofs.TripletBytes.{bytes_of}
use Rattle.fdoca.proofs.TripletTests.{clash, row_clash}
use Rattle.fdoca.proofs.Counting.{up_in_row, one_row, lower_long}
use Rattle.fdoca.proofs.Groups.{EntryAt, of_single, of_row, Known}
use Rattle.fdoca.proofs.TripletSteps.{Before, Current, open_row}

pub place_next : (d : List ℕ) (j : ℕ) → place d (suc j) ≡ place d j + length_byte d j
unfolding place
place_next d j = refl

-- what every item of a layout is, and the test of it
pub endless_no_data : (rows : List Field) → endless rows ≡ true → NoData rows
endless_no_data [] h = none_left
endless_no_data (f ∷ fs) h =
    let a = and_left (eqb f.code 0x01 && eqb (field_length f) 0) (endless fs) h in
    one_more (eqb-true f.code 0x01 (and_left (eqb f.code 0x01) _ a)) (eqb-true (field_length f) 0 (and_right (eqb f.code 0x01) _ a))
    (endless_no_data fs (and_right (eqb f.code 0x01 && eqb (field_length f) 0) (endless fs) h))

pub no_data_endless : {rows : List Field} → NoData rows → endless rows ≡ true
no_data_endless none_left = refl
no_data_endless (one_more {f = f} c l h) = rw (eq-eqb f.code 0x01 c, eq-eqb (field_length f) 0 l) (no_data_endless h)

pub last_cons : (t : Triplet) (ts : List Triplet) → is_empty ts ≡ false → last_place (t ∷ ts) ≡ last_place ts
last_cons t [] h = absurd (true≢false h)
last_cons t (u ∷ ts) h = refl

module _ (d : List ℕ) where
  -- a row whose count is over the limit has a group at which it is
  pub over_at : {r j k n : ℕ} → UpTo d r j k n → 4096 < n → (i g : ℕ) × TooManyUpTo d i g × ((i < j) ⊎ ((i ≡ j) × (g < k)))
  over_at (start i) h = absurd (let z : ⊥ = omega arith in z)
  over_at (group {j = j} {k = k} u x a) h = (j, k, R.of_row (group u x a) h, inr (refl, omega arith))
  over_at (continued u e i) h =
      let (v, g, t, o) = over_at u h in
      (v, g, t, inl (earlier o))
    where
      earlier : {v g j k : ℕ} → (v < j) ⊎ ((v ≡ j) × (g < k)) → v < suc j
      earlier (inl l) = omega arith
      earlier (inr e) = omega (arith, e.0)

  -- the places of the triplets rise
  place_rises : (i m : ℕ) → place d i ≤ place d (i + m)
  place_rises i zero = let e : i + 0 ≡ i = omega arith in rw e (omega arith)
  place_rises i (suc m) =
      let e : i + suc m ≡ suc (i + m) = omega arith in
      rw e (omega (arith, place_rises i m, place_next d (i + m)))

  -- a group that ends the descriptor belongs to its last triplet
  ends_last : (i k : ℕ) → HasGroup d i k → EndsDescriptor d i k → length d ≤ place d (suc i)
  ends_last i k g e = omega (arith, place_next d i)

  pub endless_group_lem : {i k : ℕ} → Endless d i k → HasGroup d i k × EndsDescriptor d i k
  endless_group_lem (takes_no_data a b g e f r n) = (g, e)

  pub not_before : {i j k : ℕ} → There d i → Endless d i k → There d j → i < j → ⊥
  not_before {i} {j} {k} a x h l =
      let (g, e) = endless_group_lem x in
      let q : suc i + (j - suc i) ≡ j = omega arith in
      let z : ⊥ = omega (arith, ends_last i k g e, rw q at (place_rises (suc i) (j - suc i)), h.left) in
      z

  -- a group that repeats to the end adds nothing
  pub adds_nothing : {r v j k m : ℕ} → InRow d r j → Is d R.rlo_byte r → factor d j k ≡ 0 → InRow d v j → Adds d v j k m → m ≡ 0
  adds_nothing i h e w (kept {n = n} a b c x) = rw e (zero-mul n)
  adds_nothing {j = j} {k = k} i h e w (replaced {l = l} a b c x y) = rw e (zero-mul (taken d j k * l))
  adds_nothing i h e w (column a) = absurd (clash (rw (one_row i w) at h) a (omega arith))

-- behind the last triplet
module _ (d : List ℕ) (j : ℕ) (st : State) (b : Before d j st) (e : place d j ≡ length d) where
  -- the group that repeats to the end, by what is known of the row at hand
  pub record Ending : Type 0 where
    before_it : ℕ
    row : ℕ
    group_is : ℕ
    count : ℕ
    is_last : j ≡ suc before_it
    is_rlo : Is d R.rlo_byte row
    up_to : UpTo d row before_it (suc group_is) count
    whole_groups : length_byte d before_it ≡ 3 + 3 * suc group_is
    known_before : Known d row st.described
    factor_0 : get_or d (length d - 1) 0 ≡ 0

  pub ending : (u : Layouts) → st ≡ state u → (rows : List Field) → rows_at_end u.current u.described (last_group d) ≡ some rows → Ending
  ending u e rows q = go u.current (ap (λ (v : State). v.current) e) q
    where
      by_factor : (x : Bool) (l : List Field) → eqb (get_or d (length d - 1) 0) 0 ≡ x → (if x then some l else none) ≡ some rows → get_or d (length d - 1) 0 ≡ 0
      by_factor true l h q = eqb-true (get_or d (length d - 1) 0) 0 h
      by_factor false l h q = absurd (let z : ◌≡◌ {A = ℕ} 0 1 = cc in let w : ⊥ = omega arith in w)

      by_kind : (kind : Kind) (id m : ℕ) → Current d j st.described (some (id, m, kind)) → rows_of kind u.described (last_group d) ≡ some rows → Ending
      by_kind rlo id m (open_row {r = r} {i = i} {k = k} {n = n} e is x l t known) q =
          record {
            before_it = i;
            row = r;
            group_is = k;
            count = n;
            is_last = e;
            is_rlo = is;
            up_to = x;
            whole_groups = l;
            known_before = known;
            factor_0 = by_factor (eqb (get_or d (length d - 1) 0) 0) _ refl q;
          }
      by_kind gda id m c q = absurd (let z : ◌≡◌ {A = ℕ} 0 1 = cc in let w : ⊥ = omega arith in w)

      go : (o : Option (ℕ × List Field × Kind)) → st.current ≡ row_counted o → rows_at_end o u.described (last_group d) ≡ some rows → Ending
      go none c q = absurd (let z : ◌≡◌ {A = ℕ} 0 1 = cc in let w : ⊥ = omega arith in w)
      go (some r) c q = by_kind r.2 r.0 (length r.1) (rw c at b.current) q

  at_end : (x : Ending) → place d x.before_it + length_byte d x.before_it ≡ length d
  at_end x = sym (ap (place d) x.is_last ∙ place_next d x.before_it) ∙ e

  pub endless_at : (st ≡ state (unfold_triplets U.start (triplets d))) → (rows : List Field) → repeated d ≡ some rows → NoData rows → (i k : ℕ) × (j ≡ suc i) × Endless d i k
  unfolding repeated
  endless_at u rows q w =
      let x = ending (unfold_triplets U.start (triplets d)) u rows q in
      let o : place d x.before_it + length_byte d x.before_it ≡ length d = at_end x in
      let p : place d x.before_it + (5 + 3 * x.group_is) ≡ length d - 1 = omega (arith, x.whole_groups) in
      let y : Endless d x.before_it x.group_is =
      takes_no_data (up_in_row x.up_to) x.is_rlo (omega (arith, x.whole_groups)) (omega (arith, x.whole_groups)) (ap (λ y. get_or d y 0) p ∙ x.factor_0) q w in
      (x.before_it, x.group_is, x.is_last, y)

  -- what it refers to
  elements_of : {r i k m : ℕ} → r ≤ j → Known d r st.described → Adds d r i k m → Is d R.rlo_byte r
      → (x : Entry) × (l : ℕ) × (lookup (R.reference d i k) st.described ≡ some x) × (C.count_taken (taken d i k) x ≡ some l)
  elements_of {r} {i} {k} {m} o known (kept a f t c) is = go (lookup (R.reference d i k) st.described) refl
    where
      go : (o : Option Entry) → lookup (R.reference d i k) st.described ≡ o
          → (x : Entry) × (l : ℕ) × (lookup (R.reference d i k) st.described ≡ some x) × (C.count_taken (taken d i k) x ≡ some l)
      go none q = absurd (known.missed (R.reference d i k) q _ f)
      go (some x) q = (x, C.count_of x, q, rw t)
  elements_of {r} {i} {k} {m} o known (replaced {q = v} a f t is-sda l) is = go (lookup (R.reference d i k) st.described) refl
    where
      take_some : (t : ℕ) (x : Entry) → 0 < t → EntryAt d v x → (l : ℕ) × (C.count_taken t x ≡ some l)
      take_some zero x h y = absurd (let z : ⊥ = omega arith in z)
      take_some (suc t) (C.array c []) h (of_single a e y) = absurd (lower_long l e)
      take_some (suc t) (C.array c (y ∷ ys)) h z = (_, refl)
      take_some (suc t) (C.row n) h (of_row a o) = absurd (row_clash a is-sda (omega arith) (omega arith))

      go : (o : Option Entry) → lookup (R.reference d i k) st.described ≡ o
          → (x : Entry) × (l : ℕ) × (lookup (R.reference d i k) st.described ≡ some x) × (C.count_taken (taken d i k) x ≡ some l)
      go none q = absurd (known.missed (R.reference d i k) q _ f)
      go (some x) q =
          let (u, g, y) = known.found (R.reference d i k) x q in
          let z : u ≡ v = b.unique (R.reference d i k) u v (omega (arith, g.earlier)) (omega (arith, f.earlier)) g.describes f.describes in
          let (n, o) = take_some (taken d i k) x t (rw z at y) in
          (x, n, q, o)
  elements_of o known (column a) is = absurd (clash is a (omega arith))

  pub last_there : (i : ℕ) → j ≡ suc i → There d i
  last_there i q =
      record { before = λ a h. b.whole a (omega arith); left = omega (arith, place_next d i, ap (place d) q, (b.whole i (omega arith)).long) }

  last_from : (i : ℕ) → j ≡ suc i → (m k : ℕ) → k + m ≡ i → last_place (triplets_at d (place d k)) ≡ place d i
  last_from i q zero k o =
      let w = b.whole k (omega arith) in
      let z : k ≡ i = omega arith in
      let y : place d k + length_byte d k ≡ length d = sym (place_next d k) ∙ ap (place d) (ap suc z ∙ sym q) ∙ e in
      rw (triplets_next d (place d k) (omega (arith, w.long)) w.long w.fits, triplets_end d (place d k + length_byte d k) (omega arith), z)
  last_from i q (suc m) k o =
      let w = b.whole k (omega arith) in
      let v = b.whole (suc k) (omega arith) in
      let h : place d (suc k) < length d = omega (arith, v.long, v.fits) in
      rw (triplets_next d (place d k) (omega (arith, place_next d k)) w.long w.fits, ← place_next d k)
      (last_cons (T.triplet (place d k) (bytes_of d k)) (triplets_at d (place d (suc k))) (triplets_left d (place d (suc k)) h) ∙ last_from i q m (suc k) (omega arith))

  pub last_place_lem : (i : ℕ) → j ≡ suc i → last_place (triplets d) ≡ place d i
  unfolding place
  last_place_lem i q = let z : length d - 0 ≡ length d = omega arith in rw z at (last_from i q i 0 (omega arith))

  -- What a group that repeats to the end refers to is described, and elements can be taken of it.
  pub referred : Ending → (x : Entry) × (l : ℕ) × (lookup (last_group d).ref st.described ≡ some x) × (C.count_taken (T.taken (last_group d)) x ≡ some l)
  referred x =
      let o : place d x.before_it + length_byte d x.before_it ≡ length d = at_end x in
      let f : place d x.before_it + (3 + 3 * x.group_is) ≡ length d - 3 = omega (arith, x.whole_groups) in
      let t : place d x.before_it + (4 + 3 * x.group_is) ≡ length d - 2 = omega (arith, x.whole_groups) in
      let (y, l, p, q) = go (omega (arith, (up_in_row x.up_to).behind, x.is_last)) x.known_before x.up_to x.is_rlo in
      (y, l, rw f at p, rw t at q)
    where
      go : {r i k m : ℕ} → r ≤ j → Known d r st.described → UpTo d r i (suc k) m → Is d R.rlo_byte r
          → (x : Entry) × (l : ℕ) × (lookup (R.reference d i k) st.described ≡ some x) × (C.count_taken (taken d i k) x ≡ some l)
      go l known (group u g a) is = elements_of l known a is
