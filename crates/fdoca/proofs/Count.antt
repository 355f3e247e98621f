-- The count that the check gives of an accepted descriptor is the length of its unfolding.
-- The check's state is at every triplet the image of the unfolding's: type codes and extents for fields with extents, counts for lists.
-- Assumes nothing.
use Rattle.std.specs.Prelude.{if◌then◌else◌}
use mathlib.Core.Path.{◌≡◌, refl, sym, ap, ◌∙◌}
use Prim.Native.Nat.{ℕ, zero, suc, ◌+◌, ◌*◌}
use native.Mathlib.Omega.{arith}
use native.Mathlib.Nat.{zero-mul}
use mathlib.Core.Bool.{Bool, true, false, not, ◌&&◌, true≢false}
use mathlib.Core.List.{List, [], ◌∷◌, ◌++◌}
use mathlib.Core.Option.{Option, none, some}
use lib.Dec.{ltb, eqb}
use borrow.Author.Tests.{not-false}
use lib.ListN.{length, length-append, length-replicate}
use Rattle.fdoca.specs.Basics.{elem, lookup, is_empty, repeat, product, ok}
use Rattle.fdoca.specs.Triplet.{Triplet, torn, triplet, triplets, last_place, Kind, rlo, gda, Construct, sda, isd, cpt, grouped, construct_of, id_of, code_of, parameters_of, extents_of, Group, taken, factor, groups_of}
use Rattle.fdoca.specs.FieldType.{FieldType, type_of}
use Rattle.fdoca.specs.Item.{Field}
use Rattle.fdoca.specs.Between.{entry, entries, row_counted, state}
use Rattle.fdoca.proofs.Results.{IfOk, none_owed, holds, bind_all, the_all, reject_all, ok_of}
use Rattle.fdoca.specs.Check as C
use Rattle.fdoca.specs.Unfolding as U

abbrev pub entry? : Option U.Described → Option C.Entry
entry? none = none
entry? (some d) = some (entry d)

entry_if : (b : Bool) (x y : Option U.Described) → (if b then entry? x else entry? y) ≡ entry? (if b then x else y)
entry_if true x y = refl
entry_if false x y = refl

pub lookup_entries : (i : ℕ) (ds : List (ℕ × U.Described)) → lookup i (entries ds) ≡ entry? (lookup i ds)
lookup_entries i [] = refl
lookup_entries i (d ∷ ds) = rw (lookup_entries i ds) (entry_if (eqb i d.0) (some d.1) (lookup i ds))

pub closed_state : (u : U.Layouts) → C.closed (state u) ≡ entries (U.closed u)
closed_state u = go u.current
  where
    go : (o : Option (ℕ × List Field × Kind)) → C.close_row (entries u.described) (row_counted o) ≡ entries (U.close_row u.described o)
    go none = refl
    go (some r) = refl

length_repeat : (n : ℕ) (l : List Field) → length (repeat n l) ≡ n * length l
length_repeat zero l = sym (zero-mul (length l))
length_repeat (suc n) l = length-append l (repeat n l) ∙ omega (arith, length_repeat n l)

pub length_fields_of : (d : U.Described) → length (U.fields_of d) ≡ C.count_of (entry d)
length_fields_of (U.array f xs) = length-replicate (product xs) f
length_fields_of (U.row l) = refl

length_taken : (k : ℕ) (d : U.Described) (m : ℕ) → C.count_taken k (entry d) ≡ some m → length (U.fields_taken k d) ≡ m
length_taken zero d m e = length_fields_of d ∙ cc
length_taken (suc k) (U.array f []) m e = cc
length_taken (suc k) (U.array f (x ∷ xs)) m e = length-replicate (suc k * product xs) f ∙ cc
length_taken (suc k) (U.row l) m e = cc

-- What a group of a GDA that is not refused refers to: an SDA without extents, for whose type its length is good.
pub data Fitting (g : Group) : U.Described → Type 0 where
  single : {f : Field} → C.good_column f.code g.byte1 g.byte2 ≡ true → Fitting g (U.array f [])

pub fitting : (g : Group) (d : U.Described) → not (C.fits g (entry d)) ≡ false → Fitting g d
fitting g (U.array f []) h = single (not-false (C.good_column f.code g.byte1 g.byte2) h)
fitting g (U.array f (x ∷ xs)) h = absurd (true≢false h)
fitting g (U.row l) h = absurd (true≢false h)

length_column : (g : Group) (d : U.Described) → Fitting g d → 1 ≡ length (U.column_referred g (some d))
length_column g (U.array f []) (single h) = refl
length_column g (U.array f (_ ∷ _)) x5 = elim x5 [ ]
length_column g (U.row _) x3 = elim x3 [ ]

count_added_lem : (kind : Kind) (ends : Bool) (p : ℕ) (g : Group) (d : U.Described)
    → IfOk (λ k. k ≡ length (U.fields_added kind g (some d))) (C.count_added kind ends p g (entry d))
unfolding C.count_added
count_added_lem rlo ends p g d =
    reject_all (eqb (factor g) 0 && not ends) 9 p
    (λ h. the_all (C.count_taken (taken g) (entry d)) 9 p
    (λ k e. holds (rw (length_repeat, length_taken (taken g) d k e))))
count_added_lem gda ends p g d = reject_all (not (C.fits g (entry d))) 21 p (λ h. holds (length_column g d (fitting g d h)))

add_group_lem : (kind : Kind) (ends : Bool) (p n : ℕ) (g : Group) (o : Option U.Described)
    → IfOk (λ m. m ≡ n + length (U.fields_added kind g o)) (C.add_group kind ends p n g (entry? o))
unfolding C.add_group
add_group_lem kind ends p n g none = none_owed
add_group_lem kind ends p n g (some d) =
    bind_all (C.count_added kind ends p g (entry d)) (count_added_lem kind ends p g d)
    (λ k e. reject_all (ltb C.max_items (n + k)) 10 p
    (λ h. holds (rw e)))

add_groups_lem : (kind : Kind) (last : Bool) (p : ℕ) (ds : List (ℕ × U.Described)) (l : List Field) (gs : List Group)
    → IfOk (λ m. m ≡ length (U.add_fields kind ds l gs)) (C.add_groups kind last p (entries ds) (length l) gs)
unfolding C.add_groups U.add_fields
add_groups_lem kind last p ds l [] = holds refl
add_groups_lem kind last p ds l (g ∷ gs) =
    rw (lookup_entries g.ref ds)
    (bind_all _
    (add_group_lem kind _ p (length l) g (lookup g.ref ds))
    (λ m e. let e' : m ≡ length (l ++ U.group_fields kind ds g) = e ∙ sym (length-append l (U.group_fields kind ds g)) in
    rw e' (add_groups_lem kind last p ds (l ++ U.group_fields kind ds g) gs)))

-- a type or parameters that are not good are refused, and so is a type code without a rule
pub bad_type : (t : List ℕ) → C.good_type (type_of (code_of t)) (parameters_of t) ≡ false → C.good_sda t ≡ false
bad_type t e = rw e (no_rule (not (eqb (id_of t) 0)) (not (elem 0 (extents_of t))))
  where
    no_rule : (a b : Bool) → (a && false && b) ≡ false
    no_rule true b = refl
    no_rule false b = refl

pub no_type_refused : (t : List ℕ) → type_of (code_of t) ≡ none → not (C.good_sda t) ≡ false → ⊥
no_type_refused t e h =
    true≢false (sym (ap not (bad_type t (rw e))) ∙ h)

check_sda_lem : (u : U.Layouts) (p : ℕ) (t : List ℕ) (o : Option FieldType) → type_of (code_of t) ≡ o
    → IfOk (λ st. st ≡ state (U.unfold_sda o u t)) (C.check_sda (entries (U.closed u)) p t)
unfolding C.check_sda U.unfold_sda
check_sda_lem u p t none e =
    reject_all (not (C.good_length_sda t)) 5 p (λ h. reject_all (not (C.good_sda t)) 6 p (λ h₁. absurd (no_type_refused t e h₁)))
check_sda_lem u p t (some T) e =
    reject_all (not (C.good_length_sda t)) 5 p
    (λ h. reject_all (not (C.good_sda t)) 6 p
    (λ h₁. reject_all (C.is_described (id_of t) (entries (U.closed u))) 7 p
    (λ h₂. reject_all (ltb C.max_items (product (extents_of t))) 10 p
    (λ h₃. holds refl))))

check_row_lem : (kind : Kind) (last : Bool) (u : U.Layouts) (p : ℕ) (t : List ℕ)
    → IfOk (λ st. st ≡ state (U.unfold_row kind u t)) (C.check_row kind last (entries (U.closed u)) p t)
unfolding C.check_row U.unfold_row
check_row_lem kind last u p t =
    reject_all (not (C.good_length_row t)) 5 p
    (λ h. reject_all (eqb (id_of t) 0) 6 p
    (λ h₁. reject_all (C.is_described (id_of t) (entries (U.closed u))) 7 p
    (λ h₂. bind_all (C.add_groups kind last p (entries (U.closed u)) 0 (groups_of t)) (add_groups_lem kind last p (U.closed u) [] (groups_of t)) (λ n e. holds (rw e)))))

check_cpt_lem : (last : Bool) (u : U.Layouts) (p : ℕ) (t : List ℕ) → IfOk (λ st. st ≡ state (U.unfold_cpt u.current u t)) (C.check_cpt last (state u) p t)
unfolding C.check_cpt U.unfold_cpt
check_cpt_lem last u p t = go u.current
  where
    go : (o : Option (ℕ × List Field × Kind))
        → IfOk (λ st. st ≡ state (U.unfold_cpt o u t)) (C.check_cpt last (record { described = entries u.described; current = row_counted o }) p t)
    go none = none_owed
    go (some r) =
        reject_all (not (C.good_length_row t)) 5 p (λ h. reject_all (not (eqb (id_of t) 0)) 6 p
        (λ h₁. bind_all (C.add_groups r.2 last p (entries u.described) (length r.1) (groups_of t)) (add_groups_lem r.2 last p u.described r.1 (groups_of t))
        (λ n e. holds (rw e))))

check_isd_lem : (u : U.Layouts) (p : ℕ) (t : List ℕ) → IfOk (λ st. st ≡ state u) (C.check_isd (state u) p t)
unfolding C.check_isd
check_isd_lem u p t =
    reject_all (not (eqb p 0)) 4 p
    (λ h. reject_all (not (C.good_length_isd t)) 5 p
    (λ h₁. reject_all (not (C.good_isd t)) 6 p
    (λ h₂. holds refl)))

check_construct_lem : (c : Option Construct) (last : Bool) (u : U.Layouts) (p : ℕ) (t : List ℕ)
    → IfOk (λ st. st ≡ state (U.unfold_construct c u t)) (C.check_construct c last (state u) p t)
unfolding C.check_construct U.unfold_construct
check_construct_lem none last u p t = none_owed
check_construct_lem (some sda) last u p t = rw (closed_state u) (check_sda_lem u p t (type_of (code_of t)) refl)
check_construct_lem (some (grouped kind)) last u p t = rw (closed_state u) (check_row_lem kind last u p t)
check_construct_lem (some isd) last u p t = check_isd_lem u p t
check_construct_lem (some cpt) last u p t = check_cpt_lem last u p t

pub check_triplet_lem : (last : Bool) (u : U.Layouts) (t : Triplet) → IfOk (λ st. st ≡ state (U.unfold_triplet u t)) (C.check_triplet last (state u) t)
unfolding C.check_triplet U.unfold_triplet
check_triplet_lem last u (torn p) = none_owed
check_triplet_lem last u (triplet p t) = check_construct_lem (construct_of t) last u p t

pub check_triplets_lem : (u : U.Layouts) (ts : List Triplet) → IfOk (λ st. st ≡ state (U.unfold_triplets u ts)) (C.check_triplets (state u) ts)
unfolding C.check_triplets U.unfold_triplets
check_triplets_lem u [] = holds refl
check_triplets_lem u (t ∷ ts) =
    bind_all (C.check_triplet (is_empty ts) (state u) t) (check_triplet_lem (is_empty ts) u t) (λ st e. rw e (check_triplets_lem (U.unfold_triplet u t) ts))

last_count_lem : (size : ℕ) (ds : List (ℕ × U.Described)) → IfOk (λ n. n ≡ length (U.last_fields ds)) (C.last_count size (entries ds))
last_count_lem size [] = none_owed
last_count_lem size (d ∷ ds) = holds (sym (length_fields_of d.1))

check_count : (d : List ℕ) → IfOk (λ n. n ≡ length (U.unfolded d)) (C.check d)
unfolding C.check U.unfolded
check_count d =
    reject_all (ltb C.max_descriptor (length d)) 1 0
    (λ h. bind_all (C.check_triplets C.begin (triplets d)) (check_triplets_lem U.start (triplets d))
    (λ st e. bind_all (C.last_count (length d) (C.closed st))
    (rw (e, closed_state (U.unfold_triplets U.start (triplets d))) (last_count_lem (length d) (U.closed (U.unfold_triplets U.start (triplets d)))))
    (λ n c. reject_all (C.is_endless (U.repeated d)) 22 (last_place (triplets d)) (λ h₁. holds c))))

-- The check's count of an accepted descriptor is the length of its unfolding.
pub count_is_length : (d : List ℕ) (n : ℕ) → C.check d ≡ ok n → length (U.unfolded d) ≡ n
count_is_length d n e = sym (ok_of (rw e at (check_count d)))
