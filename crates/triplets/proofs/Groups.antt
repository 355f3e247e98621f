-- The groups of a triplet, one after the other.
-- Assumes nothing.
use Rattle.std.proofs.Common.{◌≡◌, refl, ◌∙◌, ℕ, ◌-◌, ◌%◌, ◌≤◌, ◌<◌, Bool, true, ◌&&◌, List, [], ◌∷◌, length, get_or, take, drop, eqb, leb-true, eqb-true, ne_eqb, Result, Ok, Err, arith, length-drop, take_all}
use Rattle.fdoca.specs.declared.Reason.{Reason}
use Rattle.fdoca.specs.Basics.{lookup, is_empty, ◌>>=◌}
use Rattle.fdoca.specs.Returned.{outcome}
use Rattle.fdoca.specs.Triplet.{Kind, Group, threes, groups_of}
use Rattle.fdoca.specs.Check.{Entry, add_group, add_groups, good_length_row}
use Rattle.fdoca.proofs.Tests.{and_left, and_right}
use Rattle.tables.specs.Lists.{Lists}
use Rattle.triplets.specs.Judged.{Agree, GoodRow, AddedGroup, AddedGroups}

pub whole_groups : (t : List ℕ) → good_length_row t ≡ true → GoodRow t
whole_groups t h = record { some_there = leb-true 6 (length t) (and_left _ _ h); by_three = eqb-true (length t % 3) 0 (and_right _ _ h) }

-- the bytes behind the first three, as a slice's pattern has them
behind_three : (t : List ℕ) → take (length t - 3) (drop 3 t) ≡ drop 3 t
behind_three t = take_all (length t - 3) (drop 3 t) (simp length-drop (omega arith))

-- the group that the bytes left begin with
abbrev first_of : List ℕ → Group
first_of left = record { ref = get_or left 0 0; byte1 = get_or left 1 0; byte2 = get_or left 2 0 }

first_group : (left : List ℕ) → 3 ≤ length left → threes left ≡ first_of left ∷ threes (drop 3 left)
first_group [] h = absurd (omega arith)
first_group (a ∷ []) h = absurd (omega arith)
first_group (a ∷ b ∷ []) h = absurd (omega arith)
first_group (a ∷ b ∷ c ∷ s) h = refl

no_group : (left : List ℕ) → length left < 3 → threes left ≡ []
no_group [] h = refl
no_group (a ∷ []) h = refl
no_group (a ∷ b ∷ []) h = refl
no_group (a ∷ b ∷ c ∷ s) h = absurd (omega arith)

-- no group is left where no byte is
empty_alike : (left : List ℕ) → length left % 3 ≡ 0 → eqb (length left) 0 ≡ is_empty (threes left)
empty_alike [] h = refl
empty_alike (a ∷ []) h = absurd (omega arith)
empty_alike (a ∷ b ∷ []) h = absurd (omega arith)
empty_alike (a ∷ b ∷ c ∷ s) h = ne_eqb (length (a ∷ b ∷ c ∷ s)) 0 (λ q. omega arith)

-- before the groups whose bytes are left: n items so far
pub record Adding (kind : Kind) (last : Bool) (t : List ℕ) (l : Lists) (sum n : ℕ) (left : List ℕ) : Type 0 where
  pub in_threes : length left % 3 ≡ 0
  pub same : (p : ℕ) (es : List (ℕ × Entry)) → Agree l es → add_groups kind last p es sum (groups_of t) ≡ add_groups kind last p es n (threes left)

module _ (kind : Kind) (last : Bool) (t : List ℕ) (l : Lists) (sum : ℕ) where
  pub adding_start : good_length_row t ≡ true → Adding kind last t l sum sum (take (length t - 3) (drop 3 t))
  adding_start h =
      let w : GoodRow t = whole_groups t h in
      rw (behind_three t) (record { in_threes = simp length-drop (omega (arith, w.some_there, w.by_three)); same = λ p es a. refl })

  module _ (n : ℕ) (left : List ℕ) (inv : Adding kind last t l sum n left) where
    pub adding_end : length left < 3 → AddedGroups kind last (groups_of t) l sum (Ok n)
    unfolding add_groups
    adding_end h = record { result = λ p es a. inv.same p es a ∙ rw (no_group left h) refl }

    module _ (here : 3 ≤ length left) where
      -- whether the first group is the last one
      pub is_last : eqb (length (take (length left - 3) (drop 3 left))) 0 ≡ is_empty (threes (drop 3 left))
      is_last = rw (behind_three left) (empty_alike (drop 3 left) (simp length-drop (omega (arith, inv.in_threes))))

      module _ (ends : Bool) (r : Result ℕ Reason) (v : ends ≡ (last && is_empty (threes (drop 3 left))))
          (a : AddedGroup kind ends l (first_of left) n r) where
        -- the groups left, with what adding the first gave
        step : (p : ℕ) (es : List (ℕ × Entry)) → Agree l es
            → add_groups kind last p es sum (groups_of t) ≡ (outcome p r >>= (λ m. add_groups kind last p es m (threes (drop 3 left))))
        unfolding add_groups
        step p es k =
            let x : add_group kind ends p n (first_of left) (lookup (get_or left 0 0) es) ≡ outcome p r = a.result p es k in
            inv.same p es k ∙ rw (first_group left here, ← v, x) refl

        pub adding_stop : (x : Reason) → r ≡ Err x → AddedGroups kind last (groups_of t) l sum (Err x)
        adding_stop x f = record { result = λ p es k. step p es k ∙ rw f refl }

        pub adding_more : (m : ℕ) → r ≡ Ok m → Adding kind last t l sum m (take (length left - 3) (drop 3 left))
        adding_more m f =
            rw (behind_three left) (
            record {
              in_threes = simp length-drop (omega (arith, inv.in_threes));
              same = λ p es k. step p es k ∙ rw f refl;
            })
