-- The lines by a marked plan are those of the notes, since each item, measured again at its start, is what the walk noted.
-- Assumes nothing.
use mathlib.Core.Path.{◌≡◌, refl}
use Prim.Native.Nat.{ℕ, zero, suc, ◌<◌}
use native.Mathlib.Omega.{arith}
use mathlib.Core.List.{List, [], ◌∷◌, map}
use lib.ListN.{length, get_or, drop}
use Rattle.fdoca.specs.Walk.{Note}
use Rattle.fdoca.specs.Dump.{item_line, item_lines}
use Rattle.fdoca.specs.Between.{Stands}
use Rattle.fdoca.proofs.Cover.{Standing, none_left, one_more}
use Rattle.fields.specs.Plan.{Proper}
use Rattle.walks.specs.Entry.{measure_entry}
use Rattle.walks.specs.Marks.{mark_of, Noted, nothing}
use Rattle.walks.proofs.Parts.{code_part, mark_part, entry_measures}
use Rattle.listing.specs.Lines.{start_in, entry_line, entry_lines, MeasuredIn, EachMeasured}

-- the line of a note, by its mark
same_line : (k : ℕ) (n : Note) (s : List ℕ) → Proper n.field → Stands s n → entry_line k (mark_of n) (measure_entry (mark_of n) (drop (start_in (mark_of n)) s)) ≡ item_line k n
unfolding mark_of entry_line item_line
same_line k n s h w =
    rw (mark_part n.field n.start h, code_part n.field n.start h, entry_measures n.field n.start (drop n.start s) h, w.measured)

pub same_lines : (k : ℕ) (ns : List Note) (s : List ℕ) → Noted ns → Standing s ns → entry_lines k (map mark_of ns) s ≡ item_lines k ns
unfolding entry_lines item_lines
same_lines k [] s nothing none_left = refl
same_lines k (n ∷ ns) s (Noted.item h t) (one_more w r) = rw (same_line k n s h w, same_lines (suc k) ns s t r)

-- and each is there
measured_mark : (n : Note) (s : List ℕ) → Proper n.field → Stands s n → MeasuredIn s (mark_of n)
unfolding mark_of
measured_mark n s h w =
    record {
      starts = rw (mark_part n.field n.start h) w.starts;
      null = n.is_null;
      lead = n.lead;
      value = n.value;
      spare = n.spare;
      measured = rw (mark_part n.field n.start h, entry_measures n.field n.start (drop n.start s) h, w.measured);
    }

pub marks_measured : (ns : List Note) (s : List ℕ) → Noted ns → Standing s ns → EachMeasured (map mark_of ns) s
marks_measured ns s t w = record { each = λ k h. go ns t w k h }
  where
    go : (ns : List Note) → Noted ns → Standing s ns → (k : ℕ) → k < length (map mark_of ns) → MeasuredIn s (get_or (map mark_of ns) k 0)
    go [] nothing none_left k h = absurd (let z : ⊥ = omega arith in z)
    go (n ∷ ns) (Noted.item p t) (one_more w r) zero h = measured_mark n s p w
    go (n ∷ ns) (Noted.item p t) (one_more w r) (suc k) h = go ns t r k (omega arith)
