-- The unfolding of an accepted descriptor meets none of the cases that Unfolding marks with a star: it is what the other cases alone make.
-- Assumes nothing.
use mathlib.Core.Path.{◌≡◌, refl, sym, ap, ◌∙◌, subst}
use Prim.Native.Nat.{ℕ, zero, suc, ◌+◌, ◌*◌}
use native.Mathlib.Omega.{arith}
use mathlib.Core.Bool.{Bool, not, ◌&&◌}
use mathlib.Core.List.{List, [], ◌∷◌, ◌++◌}
use mathlib.Core.Option.{Option, none, some}
use lib.Dec.{ltb, eqb}
use lib.ListN.{length, replicate}
use Rattle.fdoca.specs.Basics.{is_empty, lookup, repeat, product, ok}
use Rattle.fdoca.specs.FieldType.{FieldType, type_of}
use Rattle.fdoca.specs.Triplet.{Triplet, torn, triplet, triplets, last_place, Kind, rlo, gda, Construct, sda, isd, cpt, grouped, construct_of, id_of, code_of, extents_of, Group, taken, factor, groups_of}
use Rattle.fdoca.specs.Item.{Field}
use Rattle.fdoca.specs.Check as C
use Rattle.fdoca.specs.Unfolding.{Described, array, row, fields_of, fields_taken, column, fields_added, Layouts, closed, group_fields, add_fields, field_of, unfold_sda, unfold_row, unfold_cpt, unfold_construct, unfold_triplet, unfold_triplets, start, last_fields, unfolded, last_group, repeated}
use Rattle.fdoca.specs.Between.{entry, entries, row_counted, state}
use Rattle.fdoca.proofs.Results.{IfOk, none_owed, holds, bind_all, the_all, reject_all, for_all, both_all, always, itself, ok_of}
use Rattle.fdoca.proofs.Count.{entry?, lookup_entries, Fitting, single, fitting, closed_state, no_type_refused, check_triplet_lem, check_triplets_lem}
use Rattle.fdoca.proofs.CheckRows.{repeats_described}

-- the list of an RLO's group, once
pub data Takes : ℕ → Described → List Field → Type 0 where
  all : {D : Described} → Takes 0 D (fields_of D)
  some_of : {k x : ℕ} {f : Field} {xs : List ℕ} → Takes (suc k) (array f (x ∷ xs)) (replicate (suc k * product xs) f)

-- a group's list
pub data Lists : Kind → Group → Described → List Field → Type 0 where
  of_row : {g : Group} {D : Described} {m : List Field} → Takes (taken g) D m → Lists rlo g D (repeat (factor g) m)
  of_column : {g : Group} {f : Field} → Lists gda g (array f []) (column g.byte1 g.byte2 f ∷ [])

-- a list, with those of groups added to it
pub data Adds (kind : Kind) (ds : List (ℕ × Described)) : List Field → List Group → List Field → Type 0 where
  no_more : {l : List Field} → Adds kind ds l [] l
  one_more : {l m o : List Field} {g : Group} {gs : List Group} {D : Described} → lookup g.ref ds ≡ some D → Lists kind g D m → Adds kind ds (l ++ m) gs o
      → Adds kind ds l (g ∷ gs) o

-- a triplet, after what the triplets before it unfold to
pub data Unfolds (u : Layouts) (t : List ℕ) : Layouts → Type 0 where
  of_sda : {T : FieldType} → construct_of t ≡ some sda → type_of (code_of t) ≡ some T
      → Unfolds u t (record { described = (id_of t, array (field_of T t) (extents_of t)) ∷ closed u; current = none })
  of_row : {kind : Kind} {l : List Field} → construct_of t ≡ some (grouped kind) → Adds kind (closed u) [] (groups_of t) l
      → Unfolds u t (record { described = closed u; current = some (id_of t, l, kind) })
  of_isd : construct_of t ≡ some isd → Unfolds u t u
  of_cpt : {r : ℕ × List Field × Kind} {l : List Field} → construct_of t ≡ some cpt → u.current ≡ some r → Adds r.2 u.described r.1 (groups_of t) l
      → Unfolds u t (record { described = u.described; current = some (r.0, l, r.2) })

pub data AllUnfold : Layouts → List Triplet → Layouts → Type 0 where
  end : {u : Layouts} → AllUnfold u [] u
  then : {u v w : Layouts} {p : ℕ} {t : List ℕ} {ts : List Triplet} → Unfolds u t v → AllUnfold v ts w → AllUnfold u (triplet p t ∷ ts) w

-- what the whole descriptor unfolds to, by these cases
pub record NoStar (d : List ℕ) : Type 0 where
  pub layouts : Layouts
  pub last_id_lem : ℕ
  pub last : Described
  pub earlier : List (ℕ × Described)
  pub triplets_unfold : AllUnfold start (triplets d) layouts
  pub last_is : closed layouts ≡ (last_id_lem, last) ∷ earlier
  pub unfolding_is : unfolded d ≡ fields_of last
  pub repeated_is : (rows : List Field) → repeated d ≡ some rows
      → (D : Described) × (lookup (last_group d).ref layouts.described ≡ some D) × Takes (taken (last_group d)) D rows

taken_as : (k : ℕ) (D : Described) (m : ℕ) → C.count_taken k (entry D) ≡ some m → Takes k D (fields_taken k D)
taken_as zero D m e = all
taken_as (suc k) (array f []) m e = absurd (let z : ◌≡◌ {A = ℕ} 0 1 = cc in let w : ⊥ = omega arith in w)
taken_as (suc k) (array f (x ∷ xs)) m e = some_of
taken_as (suc k) (row l) m e = absurd (let z : ◌≡◌ {A = ℕ} 0 1 = cc in let w : ⊥ = omega arith in w)

column_as : (g : Group) (D : Described) → Fitting g D → Lists gda g D (fields_added gda g (some D))
column_as g (array f []) (single h) = of_column
column_as g (array f (_ ∷ _)) x5 = elim x5 [ ]
column_as g (row _) x3 = elim x3 [ ]

list_as : (kind : Kind) (ends : Bool) (p : ℕ) (g : Group) (D : Described) → IfOk (λ m. Lists kind g D (fields_added kind g (some D))) (C.count_added kind ends p g (entry D))
unfolding C.count_added
list_as rlo ends p g D =
    reject_all (eqb (factor g) 0 && not ends) 9 p
    (λ h. the_all (C.count_taken (taken g) (entry D)) 9 p
    (λ k t. holds (of_row (taken_as (taken g) D k t))))
list_as gda ends p g D = reject_all (not (C.fits g (entry D))) 21 p (λ h. holds (column_as g D (fitting g D h)))

-- what a group refers to, and that it makes a list of it
record Referred (kind : Kind) (ds : List (ℕ × Described)) (g : Group) : Type 0 where
  to : Described
  known : lookup g.ref ds ≡ some to
  lists : Lists kind g to (fields_added kind g (some to))

group_as : (kind : Kind) (ends : Bool) (p n : ℕ) (g : Group) (ds : List (ℕ × Described)) (o : Option Described) → lookup g.ref ds ≡ o
    → IfOk (λ m. Referred kind ds g) (C.add_group kind ends p n g (entry? o))
unfolding C.add_group
group_as kind ends p n g ds none e = none_owed
group_as kind ends p n g ds (some D) e =
    bind_all (C.count_added kind ends p g (entry D)) (list_as kind ends p g D)
    (λ k t. reject_all (ltb C.max_items (n + k)) 10 p
    (λ h. holds (record { to = D; known = e; lists = t })))

groups_as : (kind : Kind) (last : Bool) (p n : ℕ) (ds : List (ℕ × Described)) (l : List Field) (gs : List Group)
    → IfOk (λ m. Adds kind ds l gs (add_fields kind ds l gs)) (C.add_groups kind last p (entries ds) n gs)
unfolding C.add_groups add_fields
groups_as kind last p n ds l [] = holds no_more
groups_as kind last p n ds l (g ∷ gs) =
    rw (lookup_entries g.ref ds)
    (bind_all _ (group_as kind _ p n g ds (lookup g.ref ds) refl)
    (λ m r. for_all (λ x h. added r h) (groups_as kind last p m ds (l ++ group_fields kind ds g) gs)))
  where
    added : (r : Referred kind ds g) → Adds kind ds (l ++ group_fields kind ds g) gs (add_fields kind ds (l ++ group_fields kind ds g) gs)
        → Adds kind ds l (g ∷ gs) (add_fields kind ds (l ++ group_fields kind ds g) gs)
    added r h = rw r.known (one_more r.known r.lists (rw r.known at h))

sda_as : (u : Layouts) (p : ℕ) (t : List ℕ) (o : Option FieldType) → construct_of t ≡ some sda → type_of (code_of t) ≡ o
    → IfOk (λ st. Unfolds u t (unfold_sda o u t)) (C.check_sda (entries (closed u)) p t)
unfolding C.check_sda unfold_sda
sda_as u p t none c e =
    reject_all (not (C.good_length_sda t)) 5 p
    (λ h. reject_all (not (C.good_sda t)) 6 p
    (λ h₁. absurd (no_type_refused t e h₁)))
sda_as u p t (some T) c e = always _ (of_sda c e)

cpt_as : (last : Bool) (u : Layouts) (p : ℕ) (t : List ℕ) (o : Option (ℕ × List Field × Kind)) → construct_of t ≡ some cpt → u.current ≡ o
    → IfOk (λ st. Unfolds u t (unfold_cpt o u t)) (C.check_cpt last (record { described = entries u.described; current = row_counted o }) p t)
unfolding C.check_cpt unfold_cpt
cpt_as last u p t none c e = none_owed
cpt_as last u p t (some r) c e =
    reject_all (not (C.good_length_row t)) 5 p
    (λ h. reject_all (not (eqb (id_of t) 0)) 6 p
    (λ h₁. bind_all (C.add_groups r.2 last p (entries u.described) (length r.1) (groups_of t)) (groups_as r.2 last p (length r.1) u.described r.1 (groups_of t))
    (λ n a. holds (of_cpt c e a))))

row_as : (kind : Kind) (last : Bool) (u : Layouts) (p : ℕ) (t : List ℕ) → construct_of t ≡ some (grouped kind)
    → IfOk (λ st. Unfolds u t (unfold_row kind u t)) (C.check_row kind last (entries (closed u)) p t)
unfolding C.check_row unfold_row
row_as kind last u p t c =
    reject_all (not (C.good_length_row t)) 5 p
    (λ h. reject_all (eqb (id_of t) 0) 6 p
    (λ h₁. reject_all (C.is_described (id_of t) (entries (closed u))) 7 p
    (λ h₂. bind_all (C.add_groups kind last p (entries (closed u)) 0 (groups_of t)) (groups_as kind last p 0 (closed u) [] (groups_of t)) (λ n a. holds (of_row c a)))))

construct_as : (o : Option Construct) (last : Bool) (u : Layouts) (p : ℕ) (t : List ℕ) → construct_of t ≡ o
    → IfOk (λ st. Unfolds u t (unfold_construct o u t)) (C.check_construct o last (state u) p t)
unfolding C.check_construct C.check_isd unfold_construct
construct_as none last u p t c = none_owed
construct_as (some sda) last u p t c = rw (closed_state u) (sda_as u p t (type_of (code_of t)) c refl)
construct_as (some (grouped kind)) last u p t c = rw (closed_state u) (row_as kind last u p t c)
construct_as (some isd) last u p t c = always _ (of_isd c)
construct_as (some cpt) last u p t c = cpt_as last u p t u.current c refl

triplets_as : (u : Layouts) (ts : List Triplet) → IfOk (λ st. AllUnfold u ts (unfold_triplets u ts)) (C.check_triplets (state u) ts)
unfolding C.check_triplets unfold_triplets C.check_triplet unfold_triplet
triplets_as u [] = holds end
triplets_as u (torn p ∷ ts) = none_owed
triplets_as u (triplet p t ∷ ts) =
    bind_all (C.check_construct (construct_of t) (is_empty ts) (state u) p t) (both_all (check_triplet_lem (is_empty ts) u (triplet p t)) (construct_as (construct_of t) (is_empty ts) u p t refl))
    (λ st h. rw h.0 (for_all (λ x k. then h.1 k) (triplets_as (unfold_triplet u (triplet p t)) ts)))

-- the repeated layout of rows to the end
repeated_as : (d : List ℕ) (u : Layouts) → unfold_triplets start (triplets d) ≡ u → C.check_triplets C.begin (triplets d) ≡ ok (state u) → (rows : List Field)
    → repeated d ≡ some rows → (D : Described) × (lookup (last_group d).ref u.described ≡ some D) × Takes (taken (last_group d)) D rows
repeated_as d u e c rows r =
    let w = repeats_described d u e c rows r in
    (w.to, w.described, subst (λ l. Takes (taken (last_group d)) w.to l) (sym w.layout) (taken_as (taken (last_group d)) w.to w.count w.takes))

last_as : (d : List ℕ) (ds : List (ℕ × Described)) (size : ℕ) → closed (unfold_triplets start (triplets d)) ≡ ds → AllUnfold start (triplets d) (unfold_triplets start (triplets d))
    → C.check_triplets C.begin (triplets d) ≡ ok (state (unfold_triplets start (triplets d))) → IfOk (λ n. NoStar d) (C.last_count size (entries ds))
unfolding unfolded
last_as d [] size e a c = none_owed
last_as d (x ∷ ds) size e a c =
    holds (record {
      layouts = unfold_triplets start (triplets d);
      last_id_lem = x.0;
      last = x.1;
      earlier = ds;
      triplets_unfold = a;
      last_is = e;
      unfolding_is = ap last_fields e;
      repeated_is = repeated_as d (unfold_triplets start (triplets d)) refl c;
    })

check_as : (d : List ℕ) → IfOk (λ n. NoStar d) (C.check d)
unfolding C.check
check_as d =
    reject_all (ltb C.max_descriptor (length d)) 1 0
    (λ h. bind_all (C.check_triplets C.begin (triplets d))
    (both_all (itself (C.check_triplets C.begin (triplets d))) (both_all (check_triplets_lem start (triplets d)) (triplets_as start (triplets d))))
    (λ st g. bind_all (C.last_count (length d) (C.closed st))
    (rw (g.1.0, closed_state (unfold_triplets start (triplets d)))
    (last_as d (closed (unfold_triplets start (triplets d))) (length d) refl g.1.1 (g.0 ∙ ap ok g.1.0)))
    (λ n x. reject_all (C.is_endless (repeated d)) 22 (last_place (triplets d)) (λ h₁. holds x))))

-- An accepted descriptor's unfolding has no case with a star, nor has its repeated layout.
pub no_star : (d : List ℕ) (n : ℕ) → C.check d ≡ ok n → NoStar d
no_star d n e = ok_of (rw e at (check_as d))
