-- An accepted descriptor describes at most 4,096 items.
-- Assumes nothing.
use Rattle.std.specs.Prelude.{if◌then◌else◌}
use mathlib.Core.Path.{◌≡◌}
use Prim.Native.Nat.{ℕ, ◌+◌, ◌≤◌}
use native.Mathlib.Omega.{arith}
use mathlib.Core.Bool.{Bool, true, false, not}
use mathlib.Core.List.{List, [], ◌∷◌}
use mathlib.Core.Option.{Option, none, some}
use lib.Dec.{ltb, eqb}
use lib.ListN.{length}
use borrow.Author.Tests.{ltb-false}
use Rattle.fdoca.specs.Basics.{is_empty, product, lookup, ok}
use Rattle.fdoca.specs.Triplet.{Triplet, torn, triplet, triplets, last_place, Kind, Construct, sda, isd, cpt, grouped, construct_of, id_of, code_of, extents_of, Group, groups_of}
use Rattle.fdoca.specs.Check.{Entry, array, State, close_row, closed, count_of, is_described, max_items, max_descriptor, count_added, add_group, add_groups, good_length_sda, good_sda, good_length_row, good_length_isd, good_isd, check_sda, check_row, check_cpt, check_isd, check_construct, check_triplet, check_triplets, begin, last_count, is_endless, check}
use Rattle.fdoca.specs.Unfolding.{repeated}
use Rattle.fdoca.proofs.Results.{IfOk, none_owed, holds, bind_all, reject_all, always, ok_of}

abbrev Bounded : List (ℕ × Entry) → Type 0
Bounded [] = Unit {0}
Bounded (e ∷ es) = (count_of e.1 ≤ max_items) × Bounded es

abbrev BoundedRow : Option (ℕ × ℕ × Kind) → Type 0
BoundedRow none = Unit {0}
BoundedRow (some r) = r.1 ≤ max_items

record Limited (st : State) : Type 0 where
  entries : Bounded st.described
  open_row : BoundedRow st.current

limited_closed : (st : State) → Limited st → Bounded (closed st)
limited_closed st h = go st.current h.open_row
  where
    go : (o : Option (ℕ × ℕ × Kind)) → BoundedRow o → Bounded (close_row st.described o)
    go none k = h.entries
    go (some r) k = (k, h.entries)

limited_group : (kind : Kind) (ends : Bool) (p n : ℕ) (g : Group) (r : Option Entry) → IfOk (λ m. m ≤ max_items) (add_group kind ends p n g r)
unfolding add_group
limited_group kind ends p n g none = none_owed
limited_group kind ends p n g (some e) =
    bind_all (count_added kind ends p g e) (always (count_added kind ends p g e) (tt {0}))
    (λ k u. reject_all (ltb max_items (n + k)) 10 p
    (λ t. let r : n + k ≤ max_items = ltb-false max_items (n + k) t in holds r))

limited_groups : (kind : Kind) (last : Bool) (p : ℕ) (es : List (ℕ × Entry)) (n : ℕ) (gs : List Group) → n ≤ max_items
    → IfOk (λ m. m ≤ max_items) (add_groups kind last p es n gs)
unfolding add_groups
limited_groups kind last p es n [] h = holds h
limited_groups kind last p es n (g ∷ gs) h =
    bind_all _ (limited_group kind _ p n g (lookup g.ref es))
    (λ m k. limited_groups kind last p es m gs k)

limited_sda : (es : List (ℕ × Entry)) (p : ℕ) (t : List ℕ) → Bounded es → IfOk Limited (check_sda es p t)
unfolding check_sda
limited_sda es p t b =
    reject_all (not (good_length_sda t)) 5 p
    (λ h. reject_all (not (good_sda t)) 6 p
    (λ h₁. reject_all (is_described (id_of t) es) 7 p
    (λ h₂. reject_all (ltb max_items (product (extents_of t))) 10 p
    (λ h₃. let r : Limited (record { described = (id_of t, array (code_of t) (extents_of t)) ∷ es; current = none }) =
    record { entries = (ltb-false max_items (product (extents_of t)) h₃, b); open_row = tt } in
    holds r))))

limited_row : (kind : Kind) (last : Bool) (es : List (ℕ × Entry)) (p : ℕ) (t : List ℕ) → Bounded es → IfOk Limited (check_row kind last es p t)
unfolding check_row
limited_row kind last es p t b =
    reject_all (not (good_length_row t)) 5 p
    (λ h. reject_all (eqb (id_of t) 0) 6 p
    (λ h₁. reject_all (is_described (id_of t) es) 7 p
    (λ h₂. bind_all (add_groups kind last p es 0 (groups_of t)) (limited_groups kind last p es 0 (groups_of t) (omega arith))
    (λ n k. let r : Limited (record { described = es; current = some (id_of t, n, kind) }) = record { entries = b; open_row = k } in holds r))))

limited_cpt : (last : Bool) (st : State) (p : ℕ) (t : List ℕ) → Limited st → IfOk Limited (check_cpt last st p t)
unfolding check_cpt
limited_cpt last st p t b = go st.current b.open_row
  where
    go : (o : Option (ℕ × ℕ × Kind)) → BoundedRow o → IfOk Limited (check_cpt last (record { described = st.described; current = o }) p t)
    go none k = none_owed
    go (some r) k =
        reject_all (not (good_length_row t)) 5 p
        (λ h. reject_all (not (eqb (id_of t) 0)) 6 p
        (λ h₁. bind_all (add_groups r.2 last p st.described r.1 (groups_of t)) (limited_groups r.2 last p st.described r.1 (groups_of t) k)
        (λ n q. let z : Limited (record { described = st.described; current = some (r.0, n, r.2) }) = record { entries = b.entries; open_row = q } in holds z)))

limited_isd : (st : State) (p : ℕ) (t : List ℕ) → Limited st → IfOk Limited (check_isd st p t)
unfolding check_isd
limited_isd st p t b =
    reject_all (not (eqb p 0)) 4 p (λ h. reject_all (not (good_length_isd t)) 5 p (λ h₁. reject_all (not (good_isd t)) 6 p (λ h₂. holds b)))

limited_construct : (c : Option Construct) (last : Bool) (st : State) (p : ℕ) (t : List ℕ) → Limited st → IfOk Limited (check_construct c last st p t)
unfolding check_construct
limited_construct none last st p t b = none_owed
limited_construct (some sda) last st p t b = limited_sda (closed st) p t (limited_closed st b)
limited_construct (some (grouped kind)) last st p t b = limited_row kind last (closed st) p t (limited_closed st b)
limited_construct (some isd) last st p t b = limited_isd st p t b
limited_construct (some cpt) last st p t b = limited_cpt last st p t b

limited_triplet : (last : Bool) (st : State) (t : Triplet) → Limited st → IfOk Limited (check_triplet last st t)
unfolding check_triplet
limited_triplet last st (torn p) b = none_owed
limited_triplet last st (triplet p t) b = limited_construct (construct_of t) last st p t b

limited_triplets : (st : State) (ts : List Triplet) → Limited st → IfOk Limited (check_triplets st ts)
unfolding check_triplets
limited_triplets st [] b = holds b
limited_triplets st (t ∷ ts) b = bind_all (check_triplet (is_empty ts) st t) (limited_triplet (is_empty ts) st t b) (λ u k. limited_triplets u ts k)

limited_last : (size : ℕ) (es : List (ℕ × Entry)) → Bounded es → IfOk (λ n. n ≤ max_items) (last_count size es)
limited_last size [] b = none_owed
limited_last size (e ∷ es) b = holds b.0

limited_check : (d : List ℕ) → IfOk (λ n. n ≤ max_items) (check d)
unfolding check
limited_check d =
    reject_all (ltb max_descriptor (length d)) 1 0
    (λ h. bind_all (check_triplets begin (triplets d)) (limited_triplets begin (triplets d) (record { entries = tt; open_row = tt }))
    (λ st k. bind_all (last_count (length d) (closed st)) (limited_last (length d) (closed st) (limited_closed st k))
    (λ n c. reject_all (is_endless (repeated d)) 22 (last_place (triplets d)) (λ h₁. holds c))))

pub at_most_4096 : (d : List ℕ) (n : ℕ) → check d ≡ ok n → n ≤ 4096
at_most_4096 d n e = ok_of (rw e at (limited_check d))

-- and so does each of its triplets.
bounded_at : (es : List (ℕ × Entry)) → Bounded es → (i : ℕ) (e : Entry) → lookup i es ≡ some e → count_of e ≤ max_items
bounded_at [] b i e h = absurd (let z : ◌≡◌ {A = ℕ} 0 1 = cc in let w : ⊥ = omega arith in w)
bounded_at (x ∷ es) b i e h = go (eqb i x.0) h (λ q. bounded_at es b.1 i e q)
  where
    go : (t : Bool) → (if t then some x.1 else lookup i es) ≡ some e → (lookup i es ≡ some e → count_of e ≤ max_items) → count_of e ≤ max_items
    go true q k = let z : x.1 ≡ e = cc in rw (← z) b.0
    go false q k = k q

pub described_small : (d : List ℕ) (st : State) → check_triplets begin (triplets d) ≡ ok st → (i : ℕ) (e : Entry) → lookup i st.described ≡ some e → count_of e ≤ 4096
described_small d st e i x h =
    let l : Limited st = ok_of (rw e at (limited_triplets begin (triplets d) (record { entries = tt; open_row = tt }))) in
    bounded_at st.described l.entries i x h
