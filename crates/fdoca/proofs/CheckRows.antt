-- The check refuses a descriptor for its first reason in document 01's order, and accepts it where it has none.
-- Assumes nothing.
use Rattle.std.specs.Prelude.{if◌then◌else◌}
use mathlib.Core.Path.{◌≡◌, refl, sym, ap, ◌∙◌}
use mathlib.Core.Logic.{◌⊎◌, inl, inr}
use Prim.Native.Nat.{ℕ, zero, suc, ◌+◌, ◌-◌, ◌≤◌, ◌<◌}
use native.Mathlib.Omega.{arith}
use mathlib.Core.Bool.{Bool, true, false, true≢false}
use mathlib.Core.List.{List, [], ◌∷◌}
use mathlib.Core.Option.{Option, none, some}
use lib.Dec.{ltb, eqb}
use lib.ListN.{length}
use borrow.Author.Tests.{ltb-true, ltb-false, eqb-true, eqb-false, eq-eqb}
use Rattle.fdoca.specs.Basics.{is_empty, lookup, Result, refuse, ok, ◌>>=◌, ◌>>◌, reject}
use Rattle.fdoca.specs.Triplet.{triplets, last_place, Kind, rlo, gda, Group}
use Rattle.fdoca.specs.Triplet as T
use Rattle.fdoca.specs.Check.{Entry, State, closed, max_descriptor, check_triplet, check_triplets, begin, last_count, is_endless, check}
use Rattle.fdoca.specs.Check as C
use Rattle.fdoca.specs.Item.{Field}
use Rattle.fdoca.specs.Unfolding.{Described, fields_taken, fields_referred, Layouts, last_group, rows_of, rows_at_end, repeated, unfold_triplets}
use Rattle.fdoca.specs.Unfolding as U
use Rattle.fdoca.specs.Reasons.{place, length_byte, NotTorn, There, Is, HasGroups, Describes, EndsDescriptor, group, below_2, past_the_end, Endless, takes_no_data, TooManyUpTo, of_row, OfTriplet, torn, missing_reference, not_carried, column_misfit, too_many_up_to, OfDescriptor, oversize, nothing_described, Earlier, here, further, First}
use Rattle.fdoca.specs.Reasons as R
use Rattle.fdoca.specs.Between.{triplets_at, entry, entries, state}
use Rattle.fdoca.proofs.Tests.{by_order}
use Rattle.fdoca.proofs.Triplets.{triplets_empty, triplets_end, triplets_short, triplets_past, triplets_next}
use Rattle.fdoca.proofs.TripletBytes.{bytes_of}
use Rattle.fdoca.proofs.TripletTests.{Tells}
use Rattle.fdoca.proofs.TripletRows.{Clear, Judged, refused, passed, first_step, one_number, group_of_lem}
use Rattle.fdoca.proofs.Counting.{up_in_row, last_counted}
use Rattle.fdoca.proofs.Groups.{Known}
use Rattle.fdoca.proofs.TripletSteps.{Before, no_row, closed_known, judge_triplet}
use Rattle.fdoca.proofs.Ending.{place_next, endless_no_data, no_data_endless, over_at, endless_group_lem, not_before, adds_nothing, ending, endless_at, referred, last_there, last_place_lem}
use Rattle.fdoca.proofs.Count.{entry?, lookup_entries, check_triplets_lem}
use Rattle.fdoca.proofs.Results.{ok_of}
use Rattle.fdoca.proofs.FirstReasons as F

-- the first triplets have no reason
abbrev NoneBefore : List ℕ → ℕ → Type 0
NoneBefore d j = (i : ℕ) → i < j → (g s m : ℕ) → OfTriplet d i g s m → ⊥

-- the check of all triplets: the first reason of the first triplet that has one, or what is known behind the last
data Ran (d : List ℕ) : Result State → Type 0 where
  stopped : {j g s m p : ℕ} → There d j → p ≡ place d j → OfTriplet d j g s m → Clear d j g s → NoneBefore d j → Ran d (refuse m p)
  ran : {j : ℕ} {st : State} → Before d j st → place d j ≡ length d → NoneBefore d j → Ran d (ok st)

none_more : {d : List ℕ} {j : ℕ} → NoneBefore d j → ((g s m : ℕ) → OfTriplet d j g s m → ⊥) → NoneBefore d (suc j)
none_more {d} {j} f n i h g s m r =
    by_order i j (λ l. f i l g s m r) (λ e. n g s m (rw e at r)) (λ l. let z : ⊥ = omega arith in z)

module _ (d : List ℕ) (j : ℕ) (st : State) (b : Before d j st) (n : NoneBefore d j) where
  -- no triplet is left
  run_end : place d j ≡ length d → Ran d (check_triplets st (triplets_at d (place d j)))
  unfolding check_triplets
  run_end e = rw (triplets_end d (place d j) (omega arith)) (ran b e n)

  module _ (left : place d j < length d) where
    here_is : There d j
    here_is = record { before = b.whole; left = left }

    run_torn : R.Torn d j → triplets_at d (place d j) ≡ T.torn (place d j) ∷ [] → Ran d (check_triplets st (triplets_at d (place d j)))
    unfolding check_triplets check_triplet
    run_torn t e = rw e (stopped here_is refl (torn t) first_step n)

    -- what comes of the next triplet is handed on
    run_on : (x : Result State) → Judged d j (Before d (suc j)) x
        → ((u : State) → Before d (suc j) u → NoneBefore d (suc j) → Ran d (check_triplets u (triplets_at d (place d (suc j)))))
        → Ran d (x >>= (λ u. check_triplets u (triplets_at d (place d (suc j)))))
    run_on x (refused e r c) next = stopped here_is e r c n
    run_on x (passed {a = u} f k) next = next u k (none_more n f)

    run_next : NotTorn d j → ((u : State) → Before d (suc j) u → NoneBefore d (suc j) → Ran d (check_triplets u (triplets_at d (place d (suc j)))))
        → Ran d (check_triplets st (triplets_at d (place d j)))
    unfolding check_triplets
    run_next w next =
        rw (triplets_next d (place d j) left w.long w.fits, ← place_next d j)
        (run_on (check_triplet (is_empty (triplets_at d (place d (suc j)))) st (T.triplet (place d j) (bytes_of d j)))
        (judge_triplet d j here_is w st b (is_empty (triplets_at d (place d (suc j)))) (at_end (omega (arith, place_next d j, w.fits)))) next)
      where
        at_end : place d (suc j) ≤ length d → Tells (is_empty (triplets_at d (place d (suc j)))) (place d j + length_byte d j ≡ length d)
        at_end l =
            rw (triplets_empty d (place d (suc j)) l, ← place_next d j)
            (record { yes = λ h. eqb-true (place d (suc j)) (length d) h; no = λ h x. eqb-false (place d (suc j)) (length d) h x })

    run_by : (x y : Bool) → ltb (length_byte d j) 2 ≡ x → ltb (length d) (place d j + length_byte d j) ≡ y
        → (NotTorn d j → (u : State) → Before d (suc j) u → NoneBefore d (suc j) → Ran d (check_triplets u (triplets_at d (place d (suc j)))))
        → Ran d (check_triplets st (triplets_at d (place d j)))
    run_by true y e f next =
        let h = ltb-true (length_byte d j) 2 e in
        run_torn (below_2 h) (triplets_short d (place d j) left h)
    run_by false true e f next =
        let h = ltb-true (length d) (place d j + length_byte d j) f in
        run_torn (past_the_end h) (triplets_past d (place d j) left (ltb-false (length_byte d j) 2 e) h)
    run_by false false e f next =
        let w : NotTorn d j = record { long = ltb-false (length_byte d j) 2 e; fits = ltb-false (length d) (place d j + length_byte d j) f } in
        run_next w (next w)

run : (d : List ℕ) (fuel j : ℕ) (st : State) → Before d j st → NoneBefore d j → place d j ≤ length d → length d - place d j ≤ fuel
    → Ran d (check_triplets st (triplets_at d (place d j)))
run d zero j st b n l f = run_end d j st b n (omega arith)
run d (suc fuel) j st b n l f =
    by_order (place d j) (length d)
    (λ h. run_by d j st b n h (ltb (length_byte d j) 2) (ltb (length d) (place d j + length_byte d j)) refl refl
    (λ w u c m. run d fuel (suc j) u c m (omega (arith, place_next d j, w.fits)) (omega (arith, place_next d j, w.long))))
    (λ e. run_end d j st b n e) (λ h. absurd (let z : ⊥ = omega arith in z))

-- before the first triplet
nothing_yet : (d : List ℕ) → Before d 0 begin
nothing_yet d =
    record {
      whole = λ i h. absurd (let z : ⊥ = omega arith in z);
      unique = λ id q u h. absurd (let z : ⊥ = omega arith in z);
      current =
          no_row
          (record {
            found = λ i e q. absurd (let z : ◌≡◌ {A = ℕ} 0 1 = cc in let w : ⊥ = omega arith in w);
            missed = λ i q u v. (let z : ⊥ = omega (arith, v.earlier) in z);
          })
          (λ i e. absurd (let z : ⊥ = omega arith in z));
    }

all_run : (d : List ℕ) → Ran d (check_triplets begin (triplets d))
unfolding place
all_run d =
    let e : length d - 0 ≡ length d = omega arith in
    rw e at (run d (length d) 0 begin (nothing_yet d) (λ i h. absurd (let z : ⊥ = omega arith in z)) (omega arith) (omega arith))

-- what a group that repeats to the end makes of what it refers to
rows_made : (o : Option (ℕ × List Field × Kind)) (ds : List (ℕ × Described)) (g : Group) (D : Described) (rows : List Field) → lookup g.ref ds ≡ some D
    → rows_at_end o ds g ≡ some rows → rows ≡ fields_taken (T.taken g) D
rows_made none ds g D rows k e = absurd (let z : ◌≡◌ {A = ℕ} 0 1 = cc in let w : ⊥ = omega arith in w)
rows_made (some r) ds g D rows k e = by_kind r.2 e
  where
    by_factor : (b : Bool) → (if b then some (fields_referred (T.taken g) (lookup g.ref ds)) else none) ≡ some rows → rows ≡ fields_taken (T.taken g) D
    by_factor true q = let z : rows ≡ fields_referred (T.taken g) (lookup g.ref ds) = cc in rw k at z
    by_factor false q = absurd (let z : ◌≡◌ {A = ℕ} 0 1 = cc in let w : ⊥ = omega arith in w)

    by_kind : (kind : Kind) → rows_of kind ds g ≡ some rows → rows ≡ fields_taken (T.taken g) D
    by_kind rlo q = by_factor (eqb (T.factor g) 0) q
    by_kind gda q = absurd (let z : ◌≡◌ {A = ℕ} 0 1 = cc in let w : ⊥ = omega arith in w)

-- A group that repeats to the end refers to a described id, of which elements can be taken: these are the repeated layout.
pub record Repeats (d : List ℕ) (u : Layouts) (rows : List Field) : Type 0 where
  pub to : Described
  pub described : lookup (last_group d).ref u.described ≡ some to
  pub count : ℕ
  pub takes : C.count_taken (T.taken (last_group d)) (entry to) ≡ some count
  pub layout : rows ≡ fields_taken (T.taken (last_group d)) to

pub repeats_described : (d : List ℕ) (u : Layouts) → unfold_triplets U.start (triplets d) ≡ u → check_triplets begin (triplets d) ≡ ok (state u) → (rows : List Field)
    → repeated d ≡ some rows → Repeats d u rows
unfolding repeated
repeats_described d u eu e rows r = go (rw e at (all_run d))
  where
    at_end : rows_at_end u.current u.described (last_group d) ≡ some rows
    at_end = rw eu at r

    found : (y : Entry) (l : ℕ) → lookup (last_group d).ref (entries u.described) ≡ some y → C.count_taken (T.taken (last_group d)) y ≡ some l
        → (o : Option Described) → lookup (last_group d).ref u.described ≡ o → Repeats d u rows
    found y l f t none k =
        let w : lookup (last_group d).ref (entries u.described) ≡ none = lookup_entries (last_group d).ref u.described ∙ ap entry? k in
        absurd (let z : ◌≡◌ {A = ℕ} 0 1 = cc in let o : ⊥ = omega arith in o)
    found y l f t (some D) k =
        let w : lookup (last_group d).ref (entries u.described) ≡ some (entry D) = lookup_entries (last_group d).ref u.described ∙ ap entry? k in
        let g : y ≡ entry D = cc in
        record { to = D; described = k; count = l; takes = rw g at t; layout = rows_made u.current u.described (last_group d) D rows k at_end }

    go : Ran d (ok (state u)) → Repeats d u rows
    go (ran {j = j} b p n) =
        let (y, l, f, t) = referred d j (state u) b p (ending d j (state u) b p u refl rows at_end) in
        found y l f t (lookup (last_group d).ref u.described) refl

module _ (d : List ℕ) (small : length d ≤ max_descriptor) where
  -- the first reason of a triplet is the first of all
  triplet_first : {j g s m : ℕ} → There d j → OfTriplet d j g s m → Clear d j g s → NoneBefore d j → First (OfDescriptor d) m (place d j)
  triplet_first {j} {g} {s} {m} h r c n = record { turn = 2 ∷ j ∷ g ∷ s ∷ []; reason = R.triplet h r; others_later = λ t u q x. others x }
    where
      in_group : {k v u : ℕ} → OfTriplet d j k v u → (g < k) ⊎ ((k ≡ g) × (s ≤ v))
          → Earlier (2 ∷ j ∷ g ∷ s ∷ []) (2 ∷ j ∷ k ∷ v ∷ []) ⊎ ((2 ∷ j ∷ k ∷ v ∷ [] ≡ 2 ∷ j ∷ g ∷ s ∷ []) × (u ≡ m) × (place d j ≡ place d j))
      in_group x (inl l) = inl (further (further (here l)))
      in_group {k} {v} {u} x (inr e) =
          rw e.0
          (by_order s v (λ l. inl (further (further (further (here l))))) (λ q. inr (rw q, one_number (rw (e.0, ← q) at x) r, refl))
          (λ l. absurd (let z : ⊥ = omega (arith, e.1) in z)))

      -- 10 is not told of a group that repeats to the end
      not_too_many : {k : ℕ} → g ≡ suc k → Endless d j k → TooManyUpTo d j k → ⊥
      not_too_many {k} e (takes_no_data a b y z f rep nd) (of_row up o) =
          let (m₁, m₂, u, x, w, sum) = last_counted up in
          let q = adds_nothing d a b f (up_in_row u) w in
          let (i, k', t, l) = over_at d u (omega arith) in
          go i k' t l
        where
          go : (i k' : ℕ) → TooManyUpTo d i k' → (i < j) ⊎ ((i ≡ j) × (k' < k)) → ⊥
          go i k' t (inl l) = n i l (suc k') 11 10 (too_many_up_to t)
          go i k' t (inr l) = later (c (suc k') 11 10 (too_many_up_to (rw l.0 at t)))
            where
              later : (g < suc k') ⊎ ((suc k' ≡ g) × (s ≤ 11)) → ⊥
              later (inl y) = omega (arith, l.1)
              later (inr y) = omega (arith, l.1, y.0)

      fits : {k : ℕ} → g ≡ suc k → place d j + length_byte d j ≤ length d
      fits e = by_order (place d j + length_byte d j) (length d) (λ l. omega arith) (λ l. omega arith) (λ l. absurd (first_2 (c 0 2 2 (torn (past_the_end l)))))
        where
          first_2 : (g < 0) ⊎ ((0 ≡ g) × (s ≤ 2)) → ⊥
          first_2 (inl y) = omega arith
          first_2 (inr y) = omega (arith, y.0)

      -- a reason of the group that ends the descriptor
      same_group : {k v u : ℕ} → OfTriplet d j (suc k) v u → g ≡ suc k → v ≡ s → Endless d j k → s < 10
      same_group (missing_reference x) e q y = omega arith
      same_group (not_carried x) e q y = omega arith
      same_group (column_misfit x) e q y = omega arith
      same_group (too_many_up_to x) e q y = absurd (not_too_many e y x)

      in_last : {k : ℕ} → Endless d j k → Earlier (2 ∷ j ∷ g ∷ s ∷ []) (2 ∷ j ∷ suc k ∷ 10 ∷ []) ⊎ ((2 ∷ j ∷ suc k ∷ 10 ∷ [] ≡ 2 ∷ j ∷ g ∷ s ∷ []) × (22 ≡ m) × (place d j ≡ place d j))
      in_last {k} x =
          by_order g (suc k) (λ l. inl (further (further (here l))))
          (λ e. inl (rw e (further (further (further (here (same_group (rw e at r) e refl x)))))))
          (λ l. absurd (past g refl l))
        where
          past : (i : ℕ) → g ≡ i → suc k < i → ⊥
          past zero e l = omega arith
          past (suc i) e l =
              let (y, z) = endless_group_lem d x in
              let o : ⊥ = omega (arith, (group_of_lem (rw e at r)).0, fits e) in
              o

      others : {t : List ℕ} {u q : ℕ} → OfDescriptor d t u q → Earlier (2 ∷ j ∷ g ∷ s ∷ []) t ⊎ ((t ≡ 2 ∷ j ∷ g ∷ s ∷ []) × (u ≡ m) × (q ≡ place d j))
      others (oversize l) = absurd (let z : ⊥ = omega arith in z)
      others (R.triplet {j = i} {g = k} {step = v} {m = u} a x) =
          by_order i j (λ l. absurd (n i l k v u x)) (λ e. rw e (in_group (rw e at x) (c k v u (rw e at x)))) (λ l. inl (further (here l)))
      others (R.endless {j = i} {k = k} a x) =
          by_order i j (λ l. absurd (not_before d a x h l)) (λ e. rw e (in_last (rw e at x))) (λ l. inl (further (here l)))
      others (nothing_described f) = inl (here {a = 2} {b = 3} (omega arith))

  -- behind the last triplet
  module _ (j : ℕ) (st : State) (b : Before d j st) (at_end : place d j ≡ length d) (n : NoneBefore d j) where
    -- each triplet that is there stands before
    all_before : (i : ℕ) → There d i → i < j
    all_before i h =
        by_order i j (λ l. l) (λ q. absurd (let z : ⊥ = omega (arith, h.left, ap (place d) q) in z))
        (λ l. absurd (let z : ⊥ = omega (arith, (h.before j l).long, (h.before j l).fits) in z))

    known : Known d j (closed st)
    known = closed_known b (λ i. let z : ⊥ = omega (arith, all_before j i.there) in z)

    describer : {id i : ℕ} → Describes d id i → There d i
    describer {id} {i} h = go h.kind
      where
        go : Is d R.sda_byte i ⊎ HasGroups d i → There d i
        go (inl k) = k.there
        go (inr (inl k)) = k.there
        go (inr (inr k)) = k.there

    last_told : (es : List (ℕ × Entry)) → Known d j es → (st ≡ state (unfold_triplets U.start (triplets d)))
        → F.Told (OfDescriptor d) (last_count (length d) es >>= (λ m. reject (is_endless (repeated d)) 22 (last_place (triplets d)) >> ok m))
    last_told [] k u = F.refused (record { turn = 3 ∷ []; reason = nothing_described none_there; others_later = λ t u q x. others x })
      where
        none_there : (id i : ℕ) → Describes d id i → ⊥
        none_there id i h = k.missed id refl i (record { earlier = all_before i (describer h); describes = h })

        others : {t : List ℕ} {u q : ℕ} → OfDescriptor d t u q → Earlier (3 ∷ []) t ⊎ ((t ≡ 3 ∷ []) × (u ≡ 11) × (q ≡ length d))
        others (oversize l) = absurd (let z : ⊥ = omega arith in z)
        others (R.triplet {j = i} {g = g} {step = v} {m = m} h x) = absurd (n i (all_before i h) g v m x)
        others (R.endless h (takes_no_data {r = r} a y g z f q w)) = absurd (none_there (R.byte_of d r 2) r (record { kind = inr a.head; named = refl }))
        others (nothing_described f) = inr (refl, refl, refl)
    last_told (x ∷ es) k u = go (is_endless (repeated d)) refl
      where
        some_there : (q : ℕ) × Describes d x.0 q
        some_there = let f = k.found x.0 x.1 (rw (eq-eqb x.0 x.0 refl)) in (f.0, f.1.describes)

        by_layout : (o : Option (List Field)) → repeated d ≡ o → is_endless o ≡ true → (i k : ℕ) × (j ≡ suc i) × Endless d i k
        by_layout none e h = absurd (true≢false (sym h))
        by_layout (some rows) e h = endless_at d j st b at_end u rows e (endless_no_data rows h)

        go : (y : Bool) → is_endless (repeated d) ≡ y → F.Told (OfDescriptor d) (reject y 22 (last_place (triplets d)) >> ok (C.count_of x.1))
        go true h =
            let (i, g, e, l) = by_layout (repeated d) refl h in
            rw (last_place_lem d j st b at_end i e)
            (F.refused (record { turn = 2 ∷ i ∷ suc g ∷ 10 ∷ []; reason = R.endless (last_there d j st b at_end i e) l; others_later = λ t m q r. others i g e l r }))
          where
            others : {t : List ℕ} {m q : ℕ} (i g : ℕ) → j ≡ suc i → Endless d i g → OfDescriptor d t m q
                → Earlier (2 ∷ i ∷ suc g ∷ 10 ∷ []) t ⊎ ((t ≡ 2 ∷ i ∷ suc g ∷ 10 ∷ []) × (m ≡ 22) × (q ≡ place d i))
            others i g e l (oversize o) = absurd (let z : ⊥ = omega arith in z)
            others i g e l (R.triplet {j = i'} {g = g'} {step = v} {m = m} a r) = absurd (n i' (all_before i' a) g' v m r)
            others i g e l (R.endless {j = i'} {k = g'} a r) =
                let o : i' ≡ i = by_order i' i (λ y. absurd (not_before d a r (last_there d j st b at_end i e) y)) (λ y. y) (λ y. absurd (let z : ⊥ = omega (arith, all_before i' a) in z)) in
                let q : g' ≡ g = (let w = (endless_group_lem d l).1 in let v : EndsDescriptor d i g' = rw o at (endless_group_lem d r).1 in omega arith) in
                inr (rw (o, q), refl, rw o)
            others i g e l (nothing_described f) = absurd (f x.0 some_there.0 some_there.1)
        go false h = F.accepted (λ t m p r. none_holds r)
          where
            none_holds : {t : List ℕ} {m p : ℕ} → OfDescriptor d t m p → ⊥
            none_holds (oversize l) = omega arith
            none_holds (R.triplet {j = i} {g = g} {step = v} {m = m} a r) = n i (all_before i a) g v m r
            none_holds (R.endless a (takes_no_data y z g o f q w)) = true≢false (sym (no_data_endless w) ∙ rw q at h)
            none_holds (nothing_described f) = f x.0 some_there.0 some_there.1

  ran_told : (x : Result State) → check_triplets begin (triplets d) ≡ x → Ran d x
      → F.Told (OfDescriptor d)
      (x >>= (λ st. last_count (length d) (closed st) >>= (λ m. reject (is_endless (repeated d)) 22 (last_place (triplets d)) >> ok m)))
  ran_told x q (stopped h e r c n) = rw e (F.refused (triplet_first h r c n))
  ran_told x q (ran {j = j} {st = st} b e n) =
      last_told j st b e n (closed st) (known j st b e n) (ok_of (rw q at (check_triplets_lem U.start (triplets d))))

-- The check's answer is told by the reasons of the descriptor.
pub check_told : (d : List ℕ) → F.Told (OfDescriptor d) (check d)
unfolding check
check_told d = go (ltb max_descriptor (length d)) refl
  where
    go : (b : Bool) → ltb max_descriptor (length d) ≡ b
        → F.Told (OfDescriptor d)
        (reject b 1 0
        >> (check_triplets begin (triplets d)
        >>= (λ st. last_count (length d) (closed st) >>= (λ m. reject (is_endless (repeated d)) 22 (last_place (triplets d)) >> ok m))))
    go true e = F.refused (record { turn = 1 ∷ []; reason = oversize (ltb-true max_descriptor (length d) e); others_later = λ t u q x. others x })
      where
        others : {t : List ℕ} {u q : ℕ} → OfDescriptor d t u q → Earlier (1 ∷ []) t ⊎ ((t ≡ 1 ∷ []) × (u ≡ 1) × (q ≡ 0))
        others (oversize l) = inr (refl, refl, refl)
        others (R.triplet h x) = inl (here {a = 1} {b = 2} (omega arith))
        others (R.endless h x) = inl (here {a = 1} {b = 2} (omega arith))
        others (nothing_described f) = inl (here {a = 1} {b = 3} (omega arith))
    go false e = ran_told d (ltb-false max_descriptor (length d) e) (check_triplets begin (triplets d)) refl (all_run d)
