-- The place of a found item's value, and the part of the data there.
-- Assumes nothing.
use Rattle.std.specs.Prelude as code
use Rattle.std.specs.Prelude.{Ok, Err}
use mathlib.Core.Path.{◌≡◌, sym, ap, ◌∙◌}
use Prim.Native.Nat.{ℕ, ◌+◌, ◌-◌, ◌≤◌}
use native.Mathlib.Omega.{arith}
use native.Mathlib.Nat.{add_comm, add-sub_cancel_left}
use mathlib.Core.List.{List, []}
use lib.ListN.{length, take, drop}
use denote.Ref.{Bor}
use Rattle.fdoca.specs.Basics.{Result, refuse, ok}
use Rattle.fdoca.specs.Walk.{Note}
use Rattle.fdoca.specs.declared.Refusal.{Refusal}
use Rattle.lookups.specs.Answer.{ItemAs}
use Rattle.walks.specs.declared.Found.{Found}
use Rattle.blocks.specs.declared.Lent.{Lent}
use Rattle.blocks.specs.Lending.{lent_at, LentPart}

-- the place of what was found
module _ (x : Result Note) (s : List ℕ) (f : Found) (w : ItemAs x s f) where
  place_is : lent_at x ≡ Ok (record { offset = f.start + f.lead; length = f.value })
  place_is = rw (w.is_item, w.found)

  pub place_found : ◌≡◌ {A = code.Result Lent Refusal} (Ok (record { offset = f.start + f.lead; length = f.value })) (lent_at x)
  place_found = sym place_is

  pub place_within : f.start + f.lead + f.value ≤ length s
  place_within = omega (arith, w.inside)

-- the part of the data at an item's place
module _ (x : Result Note) (s r : Bor (List ℕ)) where
  pub lent_part : (l : Lent) → Ok l ≡ lent_at x → r.ref_ptr ≡ (s.ref_ptr.0, l.offset + s.ref_ptr.1) → r.now ≡ take (l.offset + l.length - l.offset) (drop l.offset s.now)
      → LentPart x s r
  lent_part l e p b = go x e
    where
      go : (x : Result Note) → Ok l ≡ lent_at x → LentPart x s r
      go (refuse n q) e = absurd (let z : ◌≡◌ {A = ℕ} 0 1 = cc in let o : ⊥ = omega arith in o)
      go (ok i) e =
          let o : l.offset ≡ i.start + i.lead = cc in
          let z : l.length ≡ i.value = cc in
          record {
            bytes = b ∙ ap (λ n. take n (drop l.offset s.now)) (add-sub_cancel_left l.offset l.length) ∙ rw (o, z);
            address = rw (add_comm, ← o) p;
          }

  -- none of it on a refusal
  pub lent_nothing : (e : Refusal) → Err e ≡ lent_at x → r.ref_ptr ≡ s.ref_ptr → r.now ≡ [] → LentPart x s r
  lent_nothing e h p b = go x h
    where
      go : (x : Result Note) → Err e ≡ lent_at x → LentPart x s r
      go (refuse n q) h = record { bytes = b; address = rw p (ap (λ k. (s.ref_ptr.0, k)) (omega arith)) }
      go (ok i) h = absurd (let z : ◌≡◌ {A = ℕ} 0 1 = cc in let o : ⊥ = omega arith in o)
