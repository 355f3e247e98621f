-- The check of a triplet refuses it for the first of its reasons in document 01's order, and accepts it where it has none.
-- Assumes nothing.
use mathlib.Core.Path.{◌≡◌, refl, sym}
use mathlib.Core.Logic.{◌⊎◌, inl, inr}
use Prim.Native.Nat.{ℕ, zero, suc, ◌+◌, ◌*◌, ◌≤◌, ◌<◌}
use native.Mathlib.Omega.{arith}
use mathlib.Core.Bool.{Bool, true, false}
use mathlib.Core.List.{List, [], ◌∷◌}
use Rattle.fdoca.specs.Basics.{Result, refuse, ok, ◌>>◌, reject}
use Rattle.fdoca.specs.Reasons.{OneOf, place, length_byte, byte_of, NotTorn, sda_byte, rlo_byte, gda_byte, isd_byte, cpt_byte, Is, HasGroups, InRow, Torn, below_2, past_the_end, UnknownConstruct, OutOfSequence, BadLength, BadParameter, NameTaken, missing, repetition_0, over_row, over_single, no_sda, has_extents, NotCarried, ColumnMisfit, TooManyItems, of_row, OfTriplet, torn, unknown_construct, out_of_sequence, bad_parameter, name_taken, too_many_items, missing_reference, not_carried, column_misfit, too_many_up_to}
use Rattle.fdoca.proofs.Tests.{by_order}
use Rattle.fdoca.proofs.TripletTests.{Tells, clash}
use Rattle.fdoca.proofs.Counting.{up_in_row, one_row, last_counted}

-- triplet j has no reason before the step s of its group g
abbrev pub Clear : List ℕ → (j g s : ℕ) → Type 0
Clear d j g s = (h t n : ℕ) → OfTriplet d j h t n → (g < h) ⊎ ((h ≡ g) × (s ≤ t))

-- a result for triplet j: its first reason, or what holds where it has none
pub data Judged {A : Type 0} (d : List ℕ) (j : ℕ) (Q : A → Type 0) : Result A → Type 0 where
  refused : {g s m p : ℕ} → p ≡ place d j → OfTriplet d j g s m → Clear d j g s → Judged d j Q (refuse m p)
  passed : {a : A} → ((g s m : ℕ) → OfTriplet d j g s m → ⊥) → Q a → Judged d j Q (ok a)

module _ {d : List ℕ} {j : ℕ} where
  pub clear_more : {g s : ℕ} → Clear d j g s → ((n : ℕ) → OfTriplet d j g s n → ⊥) → Clear d j g (suc s)
  clear_more {g} {s} c x h t n r = go (c h t n r)
    where
      go : (g < h) ⊎ ((h ≡ g) × (s ≤ t)) → (g < h) ⊎ ((h ≡ g) × (suc s ≤ t))
      go (inl l) = inl l
      go (inr q) =
          by_order s t (λ l. inr (q.0, l)) (λ e. absurd (x n (rw (q.0, ← e) at r))) (λ l. absurd (let z : ⊥ = omega (arith, q.1) in z))

  -- a triplet's own reasons are in the order of their numbers
  own_number : {s n : ℕ} → OfTriplet d j 0 s n → n ≡ s
  own_number (torn x) = refl
  own_number (unknown_construct x) = refl
  own_number (out_of_sequence x) = refl
  own_number (OfTriplet.bad_length x) = refl
  own_number (bad_parameter x) = refl
  own_number (name_taken x) = refl
  own_number (too_many_items x) = refl

  -- one test of the check
  pub by_row : {A : Type 0} {Q : A → Type 0} (b : Bool) {m : ℕ} {x : Result A} → Tells b (OfTriplet d j 0 m m) → Clear d j 0 m
      → (b ≡ false → Clear d j 0 (suc m) → Judged d j Q x) → Judged d j Q (reject b m (place d j) >> x)
  by_row true t c k = refused refl (t.yes refl) c
  by_row false t c k = k refl (clear_more c (λ n r. t.no refl (rw (own_number r) at r)))

  pub step_range : {g s m : ℕ} → OfTriplet d j g s m → (2 ≤ s) × (s ≤ 11) × (2 ≤ m)
  step_range (torn x) = omega arith
  step_range (unknown_construct x) = omega arith
  step_range (out_of_sequence x) = omega arith
  step_range (OfTriplet.bad_length x) = omega arith
  step_range (bad_parameter x) = omega arith
  step_range (name_taken x) = omega arith
  step_range (too_many_items x) = omega arith
  step_range (missing_reference x) = omega arith
  step_range (not_carried x) = omega arith
  step_range (column_misfit x) = omega arith
  step_range (too_many_up_to x) = omega arith

  -- from the last step of a group on to the next group, whose first step is 8
  group_step : {k s m : ℕ} → OfTriplet d j (suc k) s m → 8 ≤ s
  group_step (missing_reference x) = omega arith
  group_step (not_carried x) = omega arith
  group_step (column_misfit x) = omega arith
  group_step (too_many_up_to x) = omega arith

  pub next_group : {g : ℕ} → Clear d j g 12 → Clear d j (suc g) 8
  next_group {g} c h t n r = go (c h t n r)
    where
      go : (g < h) ⊎ ((h ≡ g) × (12 ≤ t)) → (suc g < h) ⊎ ((h ≡ suc g) × (8 ≤ t))
      go (inl l) =
          by_order (suc g) h (λ a. inl a) (λ e. inr (sym e, group_step (rw (← e) at r))) (λ a. absurd (let z : ⊥ = omega arith in z))
      go (inr q) = absurd (let z : ⊥ = omega (arith, q.1, (step_range r).1) in z)

  -- the first step of all is 2
  pub first_step : Clear d j 0 2
  first_step h t n r = by_order 0 h (λ l. inl l) (λ e. inr (sym e, (step_range r).0)) (λ l. absurd (let z : ⊥ = omega arith in z))

  -- the rows of one number each
  pub row_2 : {n : ℕ} → OfTriplet d j 0 2 n → Torn d j
  row_2 (torn x) = x

  pub row_3 : {n : ℕ} → OfTriplet d j 0 3 n → UnknownConstruct d j
  row_3 (unknown_construct x) = x

  pub row_4 : {n : ℕ} → OfTriplet d j 0 4 n → OutOfSequence d j
  row_4 (out_of_sequence x) = x

  pub row_5 : {n : ℕ} → OfTriplet d j 0 5 n → BadLength d j
  row_5 (OfTriplet.bad_length x) = x

  pub row_6 : {n : ℕ} → OfTriplet d j 0 6 n → BadParameter d j
  row_6 (bad_parameter x) = x

  pub row_7 : {n : ℕ} → OfTriplet d j 0 7 n → NameTaken d j
  row_7 (name_taken x) = x

  pub no_8 : (n : ℕ) → OfTriplet d j 0 8 n → ⊥
  no_8 n x = elim x [ ]

  pub no_9 : (n : ℕ) → OfTriplet d j 0 9 n → ⊥
  no_9 n x = elim x [ ]

  pub row_10 : {n : ℕ} → OfTriplet d j 0 10 n → TooManyItems d j
  row_10 (too_many_items x) = x

  -- a triplet's own last step is 10, and a group has no step between 9 and 11
  pub own_clear : Clear d j 0 11 → Clear d j 0 12
  own_clear c = clear_more c no_11
    where
      no_11 : (n : ℕ) → OfTriplet d j 0 11 n → ⊥
      no_11 n x = elim x [ ]

  pub no_10 : {k : ℕ} (n : ℕ) → OfTriplet d j (suc k) 10 n → ⊥
  no_10 n x = elim x [ ]

  pub tells : {b : Bool} {P : Type 0} {m : ℕ} → (P → OfTriplet d j 0 m m) → (OfTriplet d j 0 m m → P) → Tells b P → Tells b (OfTriplet d j 0 m m)
  tells f back t = record { yes = λ h. f (t.yes h); no = λ h r. t.no h (back r) }

  -- a triplet of a row is an RLO, a GDA or a CPT
  pub in_row_kind : {r : ℕ} → InRow d r j → HasGroups d j ⊎ Is d cpt_byte j
  in_row_kind {r} i =
      by_order r j (λ l. inr (i.continued j l (omega arith))) (λ e. inl (rw e at i.head)) (λ l. absurd (let z : ⊥ = omega (arith, i.behind) in z))

  -- 9 is told of an RLO's row, 21 of a GDA's
  pub row_head : {r k : ℕ} → InRow d r j → NotCarried d j k → Is d rlo_byte r
  row_head v (repetition_0 i h g e n) = rw (one_row v i) h
  row_head v (over_row i h g l f q) = rw (one_row v i) h
  row_head v (over_single i h g l f q e) = rw (one_row v i) h

  pub array_head : {r k : ℕ} → InRow d r j → ColumnMisfit d j k → Is d gda_byte r
  array_head v (no_sda i h g f n) = rw (one_row v i) h
  array_head v (has_extents i h g f u n) = rw (one_row v i) h
  array_head v (ColumnMisfit.bad_length i h g f u l n) = rw (one_row v i) h

  not_both : {k : ℕ} → NotCarried d j k → ColumnMisfit d j k → ⊥
  not_both x (no_sda i h g f n) = clash (row_head i x) h (omega arith)
  not_both x (has_extents i h g f u n) = clash (row_head i x) h (omega arith)
  not_both x (ColumnMisfit.bad_length i h g f u l n) = clash (row_head i x) h (omega arith)

  -- a group with a reason lies within triplet j, which belongs to a row
  pub group_of_lem : {k s m : ℕ} → OfTriplet d j (suc k) s m → (6 + 3 * k ≤ length_byte d j) × (HasGroups d j ⊎ Is d cpt_byte j)
  group_of_lem (missing_reference (missing i g n)) = (g, in_row_kind i)
  group_of_lem (not_carried (repetition_0 i h g e n)) = (g, in_row_kind i)
  group_of_lem (not_carried (over_row i h g l f q)) = (g, in_row_kind i)
  group_of_lem (not_carried (over_single i h g l f q e)) = (g, in_row_kind i)
  group_of_lem (column_misfit (no_sda i h g f n)) = (g, in_row_kind i)
  group_of_lem (column_misfit (has_extents i h g f u n)) = (g, in_row_kind i)
  group_of_lem (column_misfit (ColumnMisfit.bad_length i h g f u l n)) = (g, in_row_kind i)
  group_of_lem (too_many_up_to (of_row u l)) = let q = last_counted u in (q.3, in_row_kind (up_in_row q.2))

  -- a step has one number: a row is an RLO's or a GDA's
  pub one_number : {g s m n : ℕ} → OfTriplet d j g s m → OfTriplet d j g s n → m ≡ n
  one_number (torn x) (torn y) = refl
  one_number (unknown_construct x) (unknown_construct y) = refl
  one_number (out_of_sequence x) (out_of_sequence y) = refl
  one_number (OfTriplet.bad_length x) (OfTriplet.bad_length y) = refl
  one_number (bad_parameter x) (bad_parameter y) = refl
  one_number (name_taken x) (name_taken y) = refl
  one_number (too_many_items x) (too_many_items y) = refl
  one_number (missing_reference x) (missing_reference y) = refl
  one_number (not_carried x) (not_carried y) = refl
  one_number (not_carried x) (column_misfit y) = absurd (not_both x y)
  one_number (column_misfit x) (not_carried y) = absurd (not_both y x)
  one_number (column_misfit x) (column_misfit y) = refl
  one_number (too_many_up_to x) (too_many_up_to y) = refl

  -- a triplet with no reason of its own and no group with one has none at all
  pub none_left : {k : ℕ} → Clear d j k 12 → ((i s m : ℕ) → k ≤ i → OfTriplet d j (suc i) s m → ⊥) → (g s m : ℕ) → OfTriplet d j g s m → ⊥
  none_left {k} c no_group g s m r = go g r (c g s m r)
    where
      go : (g : ℕ) → OfTriplet d j g s m → (k < g) ⊎ ((g ≡ k) × (12 ≤ s)) → ⊥
      go zero r (inl l) = omega arith
      go (suc i) r (inl l) = no_group i s m (omega arith) r
      go g r (inr q) = let z : ⊥ = omega (arith, q.1, (step_range r).1) in z

  -- a whole triplet passes number 2, and one of a known type 3
  pub whole_clear : NotTorn d j → Clear d j 0 3
  whole_clear w = clear_more first_step (λ n r. not_torn (row_2 r))
    where
      not_torn : Torn d j → ⊥
      not_torn (below_2 x) = omega (arith, w.long)
      not_torn (past_the_end x) = omega (arith, w.fits)

  pub known_clear : NotTorn d j → OneOf (byte_of d j 1) (sda_byte ∷ rlo_byte ∷ gda_byte ∷ isd_byte ∷ cpt_byte ∷ []) → Clear d j 0 4
  known_clear w o = clear_more (whole_clear w) (λ n r. (row_3 r).not_carried o)
