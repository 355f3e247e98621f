-- One group of a row: the refusals in order, and the count with it.
-- Assumes nothing.
use Rattle.std.proofs.Common.{◌≡◌, refl, arith, ℕ, ◌+◌, ◌*◌, ◌<◌, Bool, true, false, not, ◌&&◌, ltb, eqb, ne_eqb, get_or, Some, None, Result, Err}
use Rattle.std.proofs.Math.Option.{none, some}
use Rattle.std.proofs.Math.Option as defined
use Rattle.fdoca.specs.declared.Reason.{Reason}
use Rattle.fdoca.specs.declared.Reason.TheVariants.{MissingReference, NotCarried, ColumnMisfit}
use Rattle.fdoca.specs.Returned.{outcome, option_of}
use Rattle.fdoca.specs.Basics.{lookup, ok, ◌>>◌, reject}
use Rattle.fdoca.specs.Triplet.{Kind, rlo, gda, Group, taken, factor}
use Rattle.fdoca.specs.Check.{Entry, count_taken, max_items, count_added, add_group}
use Rattle.plans.specs.Tied.{kind_of}
use Rattle.plans.proofs.Referred.{kind_array, kind_row}
use Rattle.tables.specs.Lists.{Lists}
use Rattle.triplets.specs.Judged.{summed, KeptAt, ItemsTaken, FitsColumn, Counted, AddedGroup}

summed_outcome : (p sum n : ℕ) → (reject (ltb max_items (sum + n)) 10 p >> ok (sum + n)) ≡ outcome p (summed sum n)
summed_outcome p sum n = go (ltb max_items (sum + n)) refl
  where
    go : (b : Bool) → ltb max_items (sum + n) ≡ b → (reject (ltb max_items (sum + n)) 10 p >> ok (sum + n)) ≡ outcome p (summed sum n)
    go true e = rw e
    go false e = rw e

-- a group that adds n items
more_items : (kind : Kind) (ends : Bool) (l : Lists) (g : Group) (sum n : ℕ)
    → ((p : ℕ) (y : Entry) → KeptAt l g.ref (some y) → count_added kind ends p g y ≡ ok n) → Counted kind ends l g sum (summed sum n)
unfolding add_group
more_items kind ends l g sum n t = record { result = λ p y k. rw (t p y k) (summed_outcome p sum n) }

-- what a function gives for none, and for something
of_none : {A : Type 0} (x : defined.Option A) → None ≡ option_of x → x ≡ none
of_none none e = refl
of_none (some a) e = absurd cc

of_some : {A : Type 0} (a : A) (x : defined.Option A) → Some a ≡ option_of x → x ≡ some a
of_some a none e = absurd cc
of_some a (some b) e = cc

-- another repetition than 0 is carried everywhere
pub carried : (factor : ℕ) (ends : Bool) → (factor ≡ 0 → ⊥) → (eqb factor 0 && not ends) ≡ false
carried factor ends h = rw (ne_eqb factor 0 h)

-- a group of an RLO
module _ (ends : Bool) (l : Lists) (g : Group) (sum : ℕ) where
  -- 9: repetition 0 where the group does not end the descriptor
  pub too_early : ends ≡ false → factor g ≡ 0 → Counted rlo ends l g sum (Err NotCarried)
  unfolding add_group count_added
  too_early e f = record { result = λ p y k. rw (f, e) }

  module _ (carries : (eqb (factor g) 0 && not ends) ≡ false) where
    -- 9: elements taken of what has no extents
    pub none_taken : ItemsTaken l g None → Counted rlo ends l g sum (Err NotCarried)
    unfolding add_group count_added
    none_taken t = record { result = λ p y k. rw (carries, of_none (count_taken (taken g) y) (t.result y k)) }

    pub some_taken : (n : ℕ) → ItemsTaken l g (Some n) → Counted rlo ends l g sum (summed sum (factor g * n))
    unfolding count_added
    some_taken n t = more_items rlo ends l g sum (factor g * n) (λ p y k. rw (carries, of_some n (count_taken (taken g) y) (t.result y k)))

    -- repetition 0 adds nothing
    pub rows_taken : (n : ℕ) → factor g ≡ 0 → ItemsTaken l g (Some n) → Counted rlo ends l g sum (summed sum 0)
    rows_taken n f t =
        let none : factor g * n ≡ 0 = rw f (omega arith) in
        rw (← none) (some_taken n t)

-- a group of a GDA
module _ (l : Lists) (g : Group) (sum : ℕ) (ends : Bool) where
  -- 21: what it refers to does not fit
  pub misfit : FitsColumn l g false → Counted gda ends l g sum (Err ColumnMisfit)
  unfolding add_group count_added
  misfit f = record { result = λ p y k. rw (← f.result y k) }

  pub one_column : FitsColumn l g true → Counted gda ends l g sum (summed sum 1)
  unfolding count_added
  one_column f = more_items gda ends l g sum 1 (λ p y k. rw (← f.result y k))

-- a group by the construct type of the row's head
module _ (head : ℕ) (ends : Bool) (l : Lists) (g : Group) (sum : ℕ) (small : g.ref < 256) where
  -- 8: the id is not described
  pub group_missing : get_or l.starts g.ref 0 ≡ 65535 → AddedGroup (kind_of head) ends l g sum (Err MissingReference)
  unfolding add_group
  group_missing h = record { result = λ p es agree. go p (lookup g.ref es) (agree g.ref small) }
    where
      go : (p : ℕ) (x : defined.Option Entry) → KeptAt l g.ref x → add_group (kind_of head) ends p sum g x ≡ outcome {A = ℕ} p (Err MissingReference)
      go p none k = refl
      go p (some y) k = absurd (k.here h)

  module _ (r : Result ℕ Reason) (here : get_or l.starts g.ref 0 ≡ 65535 → ⊥) where
    described : (kind : Kind) → Counted kind ends l g sum r → AddedGroup kind ends l g sum r
    described kind c = record { result = λ p es agree. go p (lookup g.ref es) (agree g.ref small) }
      where
        go : (p : ℕ) (x : defined.Option Entry) → KeptAt l g.ref x → add_group kind ends p sum g x ≡ outcome p r
        go p none k = absurd (here k)
        go p (some y) k = c.result p y k

    pub of_array : head ≡ 0x75 → Counted gda ends l g sum r → AddedGroup (kind_of head) ends l g sum r
    of_array q c = rw (kind_array head q) (described gda c)

    pub of_row : (head ≡ 0x75 → ⊥) → Counted rlo ends l g sum r → AddedGroup (kind_of head) ends l g sum r
    of_row q c = rw (kind_row head q) (described rlo c)
