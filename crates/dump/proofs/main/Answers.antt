-- `dump::main` meets its contract: what it writes is a part of the text.
-- Assumes nothing.
use mathlib.Core.Path.{◌≡◌, sym, ap, ◌∙◌}
use Prim.Native.Nat.{ℕ, ◌≤◌}
use native.Mathlib.Omega.{arith}
use mathlib.Core.List.{List}
use lib.ListN.{length, replicate, length-replicate}
use lib.Seq.{sets, length-sets, length-take-le}
use borrow.Author.Rules.{rules}
use Rattle.dump.proofs.main.Goals as goal

in-text : (n r : ℕ) (t bs : List ℕ) → r ≤ n → t ≡ sets (replicate n 0) 0 bs → r ≤ length t
in-text n r t bs h e = omega (arith, ap length e ∙ length-sets (replicate n 0) 0 bs ∙ length-replicate {A = ℕ} n 0)

pub write_dump-m-requires : goal.write_dump-m-requires
write_dump-m-requires c = search rules

-- The text is as long as before it was written.

pub slice_bounds-text-end : goal.slice_bounds-text-end
slice_bounds-text-end c = search in-text

pub slice_bounds-write_all-end : goal.slice_bounds-write_all-end
slice_bounds-write_all-end c = sym (length-take-le _ _ (search in-text))
