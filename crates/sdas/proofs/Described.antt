-- Whether the tables have an id, and how large a product is.
-- Assumes nothing.
use mathlib.Core.Path.{◌≡◌, refl}
use Prim.Native.Nat.{ℕ, ◌*◌, ◌≤◌, ◌<◌}
use native.Mathlib.Nat.{mul-le-mul}
use mathlib.Core.Bool.{true, false}
use mathlib.Core.List.{List}
use mathlib.Core.Option.{Option, none, some}
use lib.ListN.{get_or}
use Rattle.fdoca.specs.Basics.{lookup, is_some}
use Rattle.fdoca.specs.Check.{Entry, is_described}
use Rattle.sdas.specs.Tables.{KeptAs, Agrees}

module _ (s z e : List ℕ) (es : List (ℕ × Entry)) (i : ℕ) (small : i < 256) where
  pub is_described_lem : (get_or s i 0 ≡ 65535 → ⊥) → Agrees s z e es → is_described i es ≡ true
  is_described_lem h a = go (lookup i es) (a i small)
    where
      go : (x : Option Entry) → KeptAs (get_or s i 0) (get_or z i 0) (get_or e i 0) x → is_some x ≡ true
      go none k = absurd (h k)
      go (some y) k = refl

  pub not_described : get_or s i 0 ≡ 65535 → Agrees s z e es → is_described i es ≡ false
  not_described free a = go (lookup i es) (a i small)
    where
      go : (x : Option Entry) → KeptAs (get_or s i 0) (get_or z i 0) (get_or e i 0) x → is_some x ≡ false
      go none k = refl
      go (some y) k = absurd (k.here free)

-- a product is at most the product of the limits
pub below : (a b m n : ℕ) → a ≤ m → b ≤ n → a * b ≤ m * n
below a b m n h k = mul-le-mul h k
