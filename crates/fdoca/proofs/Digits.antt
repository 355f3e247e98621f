-- The digits of a number: how many there are in either order, and the bound that their count sets.
-- Assumes nothing.
use mathlib.Core.Path.{◌≡◌, refl}
use Prim.Native.Nat.{ℕ, suc, ◌+◌, ◌*◌, ◌^◌, ◌<◌, ◌≤◌}
use native.Mathlib.Nat.{pow-zero, pow-succ', suc-mul, mul-le-mul_right}
use native.Mathlib.Omega.{arith}
use mathlib.Core.Bool.{Bool, true, false}
use mathlib.Core.List.{List, [], ◌∷◌}
use lib.Dec.{lit<}
use lib.ListN.{length, get_or, length-reverse}
use Rattle.fdoca.specs.Basics.{in_base}
use Rattle.fdoca.specs.Calls.{ordered}

pub ordered_length : (s : List ℕ) (reversed : Bool) → length (ordered s reversed) ≡ length s
unfolding ordered
ordered_length s true = length-reverse s
ordered_length s false = refl

pub base_below : (B : ℕ) (ds : List ℕ) → ((i : ℕ) → get_or ds i 0 < B) → in_base B ds < B ^ length ds
unfolding in_base
base_below B [] h = rw pow-zero (lit< tt)
base_below B (d ∷ ds) h =
    let first : d < B = h 0 in
    let m : suc d * B ^ length ds ≤ B * B ^ length ds = mul-le-mul_right (B ^ length ds) first in
    let others : in_base B ds < B ^ length ds = base_below B ds (λ i. h (suc i)) in
    rw pow-succ' (let q : d * B ^ length ds + B ^ length ds ≤ B * B ^ length ds = rw suc-mul at m in omega arith)
