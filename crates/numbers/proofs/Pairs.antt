-- Two bytes of a list, as the definitions cut them out and as the code reads them.
-- Assumes nothing.
use mathlib.Core.Path.{◌≡◌}
use Prim.Native.Nat.{ℕ, suc, ◌+◌, ◌≤◌, ◌<◌}
use native.Mathlib.Omega.{arith}
use mathlib.Core.List.{List, [], ◌∷◌}
use lib.ListN.{length, get_or, take, drop}
use lib.Seq.{drop-cons}

pub two_at : (s : List ℕ) (i : ℕ) → i + 2 ≤ length s → take 2 (drop i s) ≡ get_or s i 0 ∷ get_or s (suc i) 0 ∷ []
two_at s i h =
    let first : i < length s = omega arith in
    let second : suc i < length s = omega arith in
    rw (drop-cons s i 0 first, drop-cons s (suc i) 0 second)
