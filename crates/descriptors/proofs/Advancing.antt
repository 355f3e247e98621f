-- The ways over the triplet at p, in the words of the code: its bytes are a part of the descriptor, and the row before it was closed.
-- Assumes nothing.
use Rattle.std.specs.Prelude.{Option, Some, None, Result, Ok, Err, IfSome, IsErrAnd}
use Rattle.std.proofs.lemmas.Result.{err_from_is_err_and}
use mathlib.Core.Path.{◌≡◌, refl, sym, ap, ◌∙◌}
use mathlib.Core.Logic.{◌⊎◌, inl, inr}
use Prim.Native.Nat.{ℕ, ◌+◌, ◌-◌, ◌≤◌, ◌<◌}
use native.Mathlib.Omega.{arith}
use native.Mathlib.Nat.{add-sub_cancel_left}
use mathlib.Core.List.{List, [], ◌∷◌}
use mathlib.Core.Option.{none}
use lib.Dec.{eqb}
use lib.ListN.{length, get_or, take, drop}
use lib.Seq.{get_or-take, get_or-drop}
use borrow.Author.Tests.{ne_eqb}
use Rattle.fdoca.specs.declared.Reason.{Reason}
use Rattle.fdoca.specs.Returned.{number_of}
use Rattle.fdoca.specs.Basics.{refuse}
use Rattle.fdoca.specs.Triplet.{triplets, construct_of}
use Rattle.fdoca.specs.Check.{check_triplets, begin}
use Rattle.fdoca.specs.Unfolding.{Described, closed}
use Rattle.fdoca.specs.Between.{entries, state}
use Rattle.tables.specs.Lists.{Lists}
use Rattle.triplets.specs.Judged.{JudgedISD}
use Rattle.descriptors.specs.declared.Step.{Step}
use Rattle.descriptors.specs.Holds.{Tables, EndsAt, no_cpt, Last, Held, ClosedRow, TookSDA, SteppedSDA, TookRow, SteppedRow, TookCPT, SteppedCPT, Moved, Advanced}
use Rattle.descriptors.proofs.Moving.{sda_refused, sda_moved, row_refused, row_moved, cpt_refused, cpt_moved, isd_refused, isd_moved, other_refused}

pub held_few : (d : List ℕ) (T : Lists) (p : ℕ) (x : Option Step) → Held d T p x → IfSome x (λ y. y.count ≤ 4096)
held_few d T p x held = go x (closed held.0) held.1.last
  where
    go : (x : Option Step) (ds : List (ℕ × Described)) → Last x ds → IfSome x (λ y. y.count ≤ 4096)
    go None ds l = tt
    go (Some y) [] l = absurd l
    go (Some y) (c ∷ ds) l = l.small

-- the refusal that a `?` passes on
stopped : (d : List ℕ) (T : Lists) (p : ℕ) (r : Result (Option Step) Reason) (m : Reason) → IsErrAnd r (λ y. y ≡ m)
    → check_triplets begin (triplets d) ≡ refuse (number_of m) p → Advanced d T p r
stopped d T p r m e q = let w = err_from_is_err_and r e in rw w.1 (rw w.2 q)

module _ (d : List ℕ) (T : Lists) (p n k : ℕ) (x : Option Step) (held : Held d T p x) (there : p < length d) (en : n ≡ get_or d p 0) (least : 2 ≤ n)
    (whole : n ≤ length d - p) (ek : k ≡ get_or (take (p + n - p) (drop p d)) 1 0) where
  same : take (p + n - p) (drop p d) ≡ take n (drop p d)
  same = ap (λ m. take m (drop p d)) (add-sub_cancel_left p n)

  kind : (c : ℕ) → k ≡ c → get_or (take n (drop p d)) 1 0 ≡ c
  kind c q = sym (ap (λ t. get_or t 1 0) same) ∙ sym ek ∙ q

  ends : (k ≡ 0x7F → ⊥) → EndsAt d p
  ends h = no_cpt (λ q. h (ek ∙ ap (λ t. get_or t 1 0) same ∙ get_or-take n (drop p d) 1 0 (omega arith) ∙ get_or-drop p d 1 0 ∙ q))

  pub cpt_stopped : (r : Result (Option Step) Reason) (m : Reason) → k ≡ 0x7F → SteppedCPT (eqb (p + n) (length d)) (take (p + n - p) (drop p d)) T x (Err m)
      → IsErrAnd r (λ y. y ≡ m) → Advanced d T p r
  cpt_stopped r m q st e =
      stopped d T p r m e (cpt_refused d T p n x held.0 held.1 there en least whole (kind 0x7F q) (number_of m) ((rw same at st) p (entries held.0.described) held.1.tables.agrees))

  pub over_cpt : (y : Step) → k ≡ 0x7F → TookCPT (eqb (p + n) (length d)) (take (p + n - p) (drop p d)) T x y → Moved d T p (Some y)
  over_cpt y q st = cpt_moved d T p n x held.0 held.1 there en least whole (kind 0x7F q) y (rw same at st)

  module _ (T' : Lists) (cl : ClosedRow d T T' p x) (nc : k ≡ 0x7F → ⊥) where
    tables : Tables d T'.starts T'.sizes T'.entries (closed held.0) p
    tables = cl.tables held.0 held.1 (ends nc)

    pub sda_stopped : (T'' : Lists) (r : Result (Option Step) Reason) (m : Reason) → k ≡ 0x70 → SteppedSDA (take (p + n - p) (drop p d)) p T' T'' (Err m)
        → IsErrAnd r (λ y. y ≡ m) → Advanced d T'' p r
    sda_stopped T'' r m q st e =
        stopped d T'' p r m e (sda_refused d T T' p n x held.0 held.1 there en least whole tables (kind 0x70 q) (number_of m) ((rw same at st) (entries (closed held.0)) tables.agrees))

    pub over_sda : (T'' : Lists) (y : Step) → length d ≤ 4096 → k ≡ 0x70 → TookSDA (take (p + n - p) (drop p d)) p T' T'' y → Moved d T'' p (Some y)
    over_sda T'' y small q st = sda_moved d T T' p n x held.0 held.1 there en least whole tables (kind 0x70 q) T'' y small (rw same at st)

    row_kind : (k ≡ 0x71) ⊎ (k ≡ 0x75) → (get_or (take n (drop p d)) 1 0 ≡ 0x71) ⊎ (get_or (take n (drop p d)) 1 0 ≡ 0x75)
    row_kind (inl q) = inl (kind 0x71 q)
    row_kind (inr q) = inr (kind 0x75 q)

    pub row_stopped : (r : Result (Option Step) Reason) (m : Reason) → (k ≡ 0x71) ⊎ (k ≡ 0x75)
        → SteppedRow (eqb (p + n) (length d)) (take (p + n - p) (drop p d)) p T' (Err m) → IsErrAnd r (λ y. y ≡ m) → Advanced d T' p r
    row_stopped r m q st e =
        stopped d T' p r m e (row_refused d T T' p n x held.0 held.1 there en least whole tables (row_kind q) (number_of m) ((rw same at st) (entries (closed held.0)) tables.agrees))

    pub over_row : (y : Step) → (k ≡ 0x71) ⊎ (k ≡ 0x75) → TookRow (eqb (p + n) (length d)) (take (p + n - p) (drop p d)) p T' y → Moved d T' p (Some y)
    over_row y q st = row_moved d T T' p n x held.0 held.1 there en least whole tables (row_kind q) y (rw same at st)

    pub isd_stopped : (r : Result (Option Step) Reason) (m : Reason) → k ≡ 0x7E → JudgedISD (take (p + n - p) (drop p d)) p (Err m)
        → IsErrAnd r (λ y. y ≡ m) → Advanced d T' p r
    isd_stopped r m q st e =
        stopped d T' p r m e (isd_refused d T T' p n x held.0 held.1 there en least whole tables (kind 0x7E q) (number_of m) ((rw same at st).result (state held.0)))

    pub over_isd : k ≡ 0x7E → JudgedISD (take (p + n - p) (drop p d)) p (Ok tt) → Moved d T' p None
    over_isd q st = isd_moved d T T' p n x held.0 held.1 there en least whole tables (kind 0x7E q) ((rw same at st).result (state held.0))

    pub over_other : (k ≡ 0x70 → ⊥) → (k ≡ 0x71 → ⊥) → (k ≡ 0x75 → ⊥) → (k ≡ 0x7E → ⊥) → check_triplets begin (triplets d) ≡ refuse 3 p
    over_other a b₁ b₅ c =
        let q : construct_of (take n (drop p d)) ≡ none = rw (kind k refl, ne_eqb k 0x70 a, ne_eqb k 0x71 b₁, ne_eqb k 0x75 b₅, ne_eqb k 0x7E c, ne_eqb k 0x7F nc) in
        other_refused d T p n x held.0 held.1 there en least whole q
