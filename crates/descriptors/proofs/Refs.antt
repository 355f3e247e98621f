-- What an accepted group refers to: one of the described ids, whose triplet stands before.
-- Assumes nothing.
use mathlib.Core.Path.{◌≡◌, refl, sym, ap, ◌∙◌}
use Prim.Native.Nat.{ℕ, zero, suc, ◌+◌, ◌*◌, ◌<◌}
use native.Mathlib.Omega.{arith}
use mathlib.Core.Bool.{Bool, not, ◌&&◌}
use mathlib.Core.List.{List, [], ◌∷◌}
use mathlib.Core.Option.{Option, none, some}
use lib.Dec.{ltb, eqb}
use lib.ListN.{get_or}
use Rattle.fdoca.specs.Basics.{is_empty, lookup, ok, ◌>>=◌, ◌>>◌, reject, the}
use Rattle.fdoca.specs.Triplet.{Kind, rlo, gda, Group, taken, factor}
use Rattle.fdoca.specs.Check.{max_items, count_taken, fits, count_added, add_group, add_groups}
use Rattle.fdoca.specs.Unfolding.{Described, array, row}
use Rattle.fdoca.proofs.Results.{ok_bind, ok_reject}
use Rattle.fdoca.specs.Between.{entry, entries}
use Rattle.fdoca.proofs.Count.{entry?, lookup_entries, Fitting, single, fitting}
use Rattle.plans.specs.Tied.{Takes, all, some_of, Makes, of_row, of_column}
use Rattle.descriptors.specs.Holds.{RefersIn}
use Rattle.descriptors.proofs.Rows.{AllGroups}

-- elements taken that are carried
pub takes_of : (k n : ℕ) (D : Described) → count_taken k (entry D) ≡ some n → Takes k D
takes_of zero n D e = all
takes_of (suc k) n (array f []) e = absurd (let z : ◌≡◌ {A = ℕ} 0 1 = cc in let w : ⊥ = omega arith in w)
takes_of (suc k) n (array f (x ∷ xs)) e = some_of
takes_of (suc k) n (row l) e = absurd (let z : ◌≡◌ {A = ℕ} 0 1 = cc in let w : ⊥ = omega arith in w)

-- what a group that is not refused makes
column_made : (g : Group) (D : Described) → Fitting g D → Makes gda g D
column_made g (array f []) (single h) = of_column h
column_made g (array f (_ ∷ _)) x5 = elim x5 [ ]
column_made g (row _) x3 = elim x3 [ ]

made_of : (kind : Kind) (ends : Bool) (p m : ℕ) (g : Group) (D : Described) → count_added kind ends p g (entry D) ≡ ok m → Makes kind g D
unfolding count_added
made_of rlo ends p m g D e =
    let a = ok_reject (eqb (factor g) 0 && not ends) 9 p (the (count_taken (taken g) (entry D)) 9 p >>= (λ k. ok (factor g * k))) m e in
    let b = ok_bind (the (count_taken (taken g) (entry D)) 9 p) (λ k. ok (factor g * k)) m a.1 in
    of_row (takes_of (taken g) b.0 D (the_some (count_taken (taken g) (entry D)) b.0 b.1))
  where
    the_some : (o : Option ℕ) (k : ℕ) → the o 9 p ≡ ok k → o ≡ some k
    the_some none k q = absurd (let z : ◌≡◌ {A = ℕ} 0 1 = cc in let w : ⊥ = omega arith in w)
    the_some (some y) k q = cc
made_of gda ends p m g D e = column_made g D (fitting g D (ok_reject (not (fits g (entry D))) 21 p (ok 1) m e).0)

-- a group that was added
record Added (kind : Kind) (g : Group) (x : Option Described) : Type 0 where
  to : Described
  found : x ≡ some to
  makes : Makes kind g to

group_added : (kind : Kind) (ends : Bool) (p n m : ℕ) (g : Group) (x : Option Described) → add_group kind ends p n g (entry? x) ≡ ok m → Added kind g x
unfolding add_group
group_added kind ends p n m g none e = absurd (let z : ◌≡◌ {A = ℕ} 0 1 = cc in let w : ⊥ = omega arith in w)
group_added kind ends p n m g (some D) e =
    let a = ok_bind (count_added kind ends p g (entry D)) (λ k. reject (ltb max_items (n + k)) 10 p >> ok (n + k)) m e in
    record { to = D; found = refl; makes = made_of kind ends p a.0 g D a.1 }

-- The groups of a triplet at p, where they are accepted, each refer to an id described before; the positions of these are below q.
pub groups_refer : (kind : Kind) (last : Bool) (s : List ℕ) (ds : List (ℕ × Described)) (p q n m : ℕ) (gs : List Group)
    → ((i : ℕ) (D : Described) → lookup i ds ≡ some D → (get_or s i 0 < q) × (i < 256))
    → add_groups kind last p (entries ds) n gs ≡ ok m → AllGroups (RefersIn kind s ds q) gs
unfolding add_groups
groups_refer kind last s ds p q n m [] t h = tt
groups_refer kind last s ds p q n m (g ∷ gs) t h =
    let a = ok_bind (add_group kind (last && is_empty gs) p n g (lookup g.ref (entries ds))) (λ k. add_groups kind last p (entries ds) k gs) m h in
    let b : Added kind g (lookup g.ref ds) = group_added kind (last && is_empty gs) p n a.0 g (lookup g.ref ds) (sym (ap (add_group kind (last && is_empty gs) p n g) (lookup_entries g.ref ds)) ∙ a.1) in
    let w = t g.ref b.to b.found in (
      record { to = b.to; known = b.found; back = w.0; id_fits = w.1; makes = b.makes },
      groups_refer kind last s ds p q a.0 m gs t a.2,
    )
