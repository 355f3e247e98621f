-- An accepted list call: the list keeps its length and the entries beyond its 2 + 2n.
-- Assumes nothing.
use mathlib.Core.Path.{◌≡◌, refl, ap, ◌∙◌}
use Prim.Native.Nat.{ℕ, ◌+◌, ◌*◌, ◌≤◌}
use native.Mathlib.Omega.{arith}
use mathlib.Core.Bool.{false, ◌&&◌, not}
use mathlib.Core.List.{List, ◌∷◌, ◌++◌, map, append_assoc}
use lib.ListN.{length, drop, length-map, length-append, length-drop}
use lib.Seq.{drop_at}
use borrow.Author.Tests.{ltb-false}
use Rattle.fdoca.specs.Basics.{is_some, ok}
use Rattle.fdoca.specs.Check.{check}
use Rattle.fdoca.specs.Unfolding.{unfolded, repeated}
use Rattle.fdoca.specs.Walk.{Note, walk, walk_by}
use Rattle.fdoca.specs.Calls.{oversize, item_list, small, list}
use Rattle.fdoca.proofs.Results.{IfOk, holds, bind_all, reject_all, ok_of, itself}
use Rattle.fdoca.proofs.Count.{count_is_length}
use Rattle.fdoca.proofs.Data.{item_count}

-- As many items are noted as the check counts.
pub items_noted : (d s : List ℕ) (n : ℕ) (ns : List Note) → check d ≡ ok n → walk (unfolded d) s ≡ ok ns → length ns ≡ n
items_noted d s n ns e w = item_count (unfolded d) s ns w ∙ count_is_length d n e

-- a list with the entries beyond those of n items kept
pub record Kept (n : ℕ) (old new : List ℕ) : Type 0 where
  pub size : length new ≡ length old
  pub beyond : drop (2 + 2 * n) new ≡ drop (2 + 2 * n) old

kept_list : (n size : ℕ) (ns : List Note) (old : List ℕ) → length ns ≡ n → 2 + 2 * n ≤ length old → Kept n old (item_list n size ns old)
kept_list n size ns old e h =
    let a : List ℕ = n ∷ size ∷ map (λ i. i.start) ns ++ map (λ i. i.field.id) ns in
    let k : length a ≡ 2 + 2 * n = simp (length-append, length-map) (omega arith) in
    let q : item_list n size ns old ≡ a ++ drop (2 + 2 * n) old = simp append_assoc in
    let l : length (a ++ drop (2 + 2 * n) old) ≡ length old = length-append a (drop (2 + 2 * n) old) ∙ omega (arith, length-drop (2 + 2 * n) old) in
    record { size = ap length q ∙ l; beyond = ap (drop (2 + 2 * n)) q ∙ drop_at a (drop (2 + 2 * n) old) (2 + 2 * n) k }

-- what an accepted list call has found, and the list that it leaves
pub record Listing (d s old new : List ℕ) : Type 0 where
  pub fits : oversize d s ≡ false
  pub n : ℕ
  pub accepts : check d ≡ ok n
  pub notes : List Note
  pub walks : walk_by (unfolded d) (repeated d) s ≡ ok notes
  pub room : 2 + 2 * length notes ≤ length old
  pub is_list : new ≡ item_list (length notes) (length s) notes old
  pub kept : Kept (length notes) old new

listing : (d s old : List ℕ) → IfOk (Listing d s old) (list d s old)
unfolding list
listing d s old =
    reject_all (oversize d s) 1 0
    (λ h. bind_all (check d) (itself (check d))
    (λ n e. reject_all (not (is_some (repeated d)) && small (length old) n) 12 0
    (λ h₁. bind_all (walk_by (unfolded d) (repeated d) s) (itself (walk_by (unfolded d) (repeated d) s))
    (λ ns w. reject_all (small (length old) (length ns)) 12 0
    (λ h₂. let room : 2 + 2 * length ns ≤ length old = ltb-false (length old) (2 + 2 * length ns) h₂ in
    let k : Listing d s old (item_list (length ns) (length s) ns old) =
    record {
      fits = h;
      n = n;
      accepts = e;
      notes = ns;
      walks = w;
      room = room;
      is_list = refl;
      kept = kept_list (length ns) (length s) ns old refl room;
    } in
    holds k)))))

-- An accepted list call lists the items of its walk, and keeps the list's length and all its entries beyond 2 + 2n.
pub list_keeps : (d s old new : List ℕ) → list d s old ≡ ok new → Listing d s old new
list_keeps d s old new e = ok_of (rw e at (listing d s old))
