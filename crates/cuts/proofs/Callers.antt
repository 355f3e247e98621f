-- What a caller knows of a cut: the refusal, or the items, with their marks in the first part of the plan.
-- Assumes nothing.
use Rattle.std.specs.Prelude.{Ok, Err}
use mathlib.Core.Path.{◌≡◌, refl, sym}
use Prim.Native.Nat.{ℕ, ◌≤◌}
use native.Mathlib.Omega.{arith}
use mathlib.Core.List.{List, map}
use lib.ListN.{length, take}
use lib.Seq.{length-take-le}
use Rattle.fdoca.specs.declared.Refusal.{Refusal}
use Rattle.fdoca.specs.Basics.{Result, refuse, ok, ◌>>=◌}
use Rattle.fdoca.specs.Returned.{returned}
use Rattle.fdoca.specs.Walk.{Note}
use Rattle.fdoca.specs.Check.{check}
use Rattle.fdoca.proofs.Cover.{Standing, standing}
use Rattle.fdoca.proofs.Data.{WalkedBy, walked_by}
use Rattle.fdoca.proofs.Returned.{refused_too, value_is}
use Rattle.walks.specs.Marks.{mark_of, Noted}
use Rattle.cuts.specs.Cut.{items_of, CutAs}

-- the items of a good block, n of them
pub record Items (d s plan : List ℕ) (n : ℕ) : Type 0 where
  pub notes : List Note
  pub items_are : items_of d s ≡ ok notes
  pub count_is : n ≡ length notes
  pub marks : take n plan ≡ map mark_of notes
  pub noted : Noted notes
  pub few : n ≤ 4096
  pub within : n ≤ length plan
  pub stands : Standing s notes
  pub walked : (m : ℕ) (e : check d ≡ ok m) → WalkedBy d m e s notes

module _ (d s plan : List ℕ) (m : ℕ) (accepts : check d ≡ ok m) where
  pub cut_refused : (e : Refusal) → CutAs d s plan (Err e) → Err e ≡ returned (items_of d s)
  cut_refused e c = refused_too (items_of d s) length c.counted

  pub cut_good : (n : ℕ) → CutAs d s plan (Ok n) → Items d s plan n
  cut_good n c = go (items_of d s) refl (value_is _ c.counted)
    where
      go : (w : Result (List Note)) → items_of d s ≡ w → (w >>= λ ns. ok (length ns)) ≡ ok n → Items d s plan n
      go (refuse k p) e a = absurd (let z : ◌≡◌ {A = ℕ} 0 1 = cc in let o : ⊥ = omega arith in o)
      go (ok ns) e a =
          let q : n ≡ length ns = cc in
          let w : WalkedBy d m accepts s ns = walked_by d m accepts s ns e in
          let a = c.marked ns e in
          record {
            notes = ns;
            items_are = e;
            count_is = q;
            marks = rw q a.marks;
            noted = a.noted;
            few = omega (arith, a.few);
            within = omega (arith, a.within);
            stands = standing w.fields s ns w.walks;
            walked = λ k h. walked_by d k h s ns e;
          }

  -- the part of the plan that has the items
  pub marked_part_lem : (n : ℕ) → CutAs d s plan (Ok n) → n ≡ length (take n plan)
  marked_part_lem n c = sym (length-take-le n plan (cut_good n c).within)
