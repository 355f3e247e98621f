-- An item by its mark, where the walk has found the block good.
-- Assumes nothing.
use Rattle.std.specs.Prelude.{Result, Ok, Err, IsOk}
use Prim.Native.Nat.{ℕ, ◌/◌, ◌%◌, ◌≤◌}
use mathlib.Core.Path.{◌≡◌, ap, ◌∙◌}
use mathlib.Core.List.{List}
use native.Mathlib.Omega.{arith}
use lib.ListN.{length, drop}
use Rattle.fdoca.specs.declared.Reason.{Reason}
use Rattle.fdoca.specs.Item.{item}
use Rattle.fdoca.specs.Walk.{Note}
use Rattle.terminated.specs.declared.Measured.{Measured}
use Rattle.terminated.specs.Answer.{measured}
use Rattle.fields.specs.Plan.{entry_of}
use Rattle.walks.specs.Entry.{measure_entry}
use Rattle.walks.specs.Marks.{mark_of}
use Rattle.walks.specs.Finding.{MarkIn, IsMark, FoundBy}
use Rattle.walks.proofs.Parts.{entry_part, mark_part, entry_measures}

-- the item of a mark, by the mark's parts
module _ (s : List ℕ) (e : ℕ) (n : Note) (h : MarkIn s e n) where
  start_is : e / 281474976710656 ≡ n.start
  unfolding mark_of
  start_is = rw h.mark (mark_part n.field n.start h.proper)

  entry_is : e % 281474976710656 ≡ entry_of n.field
  unfolding mark_of
  entry_is = rw h.mark (entry_part n.field n.start h.proper)

  measures : measure_entry e (drop (e / 281474976710656) s) ≡ item n.is_null n.lead n.value n.spare
  unfolding mark_of
  measures = rw start_is (ap (λ e. measure_entry e (drop n.start s)) h.mark ∙ entry_measures n.field n.start (drop n.start s) h.proper ∙ h.stands.measured)

pub mark_inside : (s : List ℕ) (e : ℕ) → IsMark s e → e / 281474976710656 ≤ length s
mark_inside s e h = rw (start_is s e h.note h.mark_in) h.mark_in.stands.starts

-- what is measured at the mark's place is that item
module _ (s : List ℕ) (e : ℕ) (r : Result Measured Reason) (told : measured r ≡ measure_entry e (drop (e / 281474976710656) s)) where
  pub mark_measured : IsMark s e → IsOk r
  mark_measured h = go r (told ∙ measures s e h.note h.mark_in)
    where
      go : (r : Result Measured Reason) → measured r ≡ item h.note.is_null h.note.lead h.note.value h.note.spare → IsOk r
      go (Ok x) q = search
      go (Err x) q = absurd (let z : ◌≡◌ {A = ℕ} 0 1 = cc in let w : ⊥ = omega arith in w)

  pub mark_found : (x : Measured) → r ≡ Ok x
      → FoundBy s e
      (record { start = e / 281474976710656; null = x.null; lead = x.lead; value = x.value; spare = x.spare; entry = e % 281474976710656 })
  mark_found x q = record {
    each = λ n h.
        let k : item x.null x.lead x.value x.spare ≡ item n.is_null n.lead n.value n.spare = rw q at (told ∙ measures s e n h) in
        let a : x.null ≡ n.is_null = cc in
        let b : x.lead ≡ n.lead = cc in
        let c : x.value ≡ n.value = cc in
        let d : x.spare ≡ n.spare = cc in
        rw (start_is s e n h, entry_is s e n h, a, b, c, d);
  }
