-- The ways through `read`.
-- Assumes nothing.
use Rattle.std.specs.Prelude.{Some, None, Result, Ok, Err, if◌then◌else◌}
use Rattle.std.specs.Prelude as given
use mathlib.Core.Path.{◌≡◌, refl, sym, ◌∙◌}
use Prim.Native.Nat.{ℕ, ◌≤◌}
use mathlib.Core.Bool.{Bool}
use mathlib.Core.List.{List}
use mathlib.Core.Option.{Option, none, some}
use lib.IntN.{ℤ}
use lib.Ieee.{Float}
use lib.ListN.{length}
use borrow.Author.Tests.{le-leb}
use Rattle.fdoca.specs.declared.Reason.TheVariants.{NoExactFloat}
use Rattle.fdoca.specs.declared.Refusal.{Refusal}
use Rattle.fdoca.specs.declared.Value.{Value}
use Rattle.fdoca.specs.declared.Value.TheVariants as value
use Rattle.fdoca.specs.Basics.{big, the}
use Rattle.fdoca.specs.Calls as calls
use Rattle.fdoca.specs.Calls.{ordered, read_by}
use Rattle.fdoca.specs.Float.{float_of}
use Rattle.fdoca.specs.Returned.{reason_of, returned, option_of}
use Rattle.numbers.specs.Whole.{whole_up_to_8}
use Rattle.floats.specs.declared.Format.{Format}
use Rattle.floats.specs.Format.{format_of}
use Rattle.values.specs.declared.Reading.{Reading}
use Rattle.values.specs.declared.Reading.TheVariants as reading
use Rattle.values.specs.Reading.{defined_reading}

module _ (k : Reading) (b : Bool) (s : List ℕ) (start : ℕ) where
  abbrev Gives : Result Value Refusal → Type 0
  Gives r = r ≡ returned (the (read_by (defined_reading k) s) 23 start)

  pub read_whole : (z : ℤ) → k ≡ reading.Whole b → length s ≤ 8 → z ≡ whole_up_to_8 s b → Gives (Ok (value.Whole z))
  unfolding read_by whole_up_to_8
  read_whole z e l w = rw (e, w, le-leb (length s) 8 l)

  module _ (f : Format) (bits : ℕ) (o : given.Option Float) (e : k ≡ reading.Float b f) (w : bits ≡ big (ordered s b)) (h : o ≡ option_of (float_of (format_of f) bits)) where
    pub read_real : (v : Float) → o ≡ Some v → Gives (Ok (value.Real v))
    unfolding read_by
    read_real v q = rw (e, ← w) (go (float_of (format_of f) bits) (sym q ∙ h))
      where
        go : (x : Option Float) → Some v ≡ option_of x → Ok (value.Real v) ≡ returned (the (calls.real x) 23 start)
        go none z = cc
        go (some u) z = cc

    pub read_none : (r : Result Value Refusal) → o ≡ None → r ≡ Err (record { reason = NoExactFloat; place = start }) → Gives r
    unfolding read_by reason_of
    read_none r q z = z ∙ rw (e, ← w) (go (float_of (format_of f) bits) (sym q ∙ h))
      where
        go : (x : Option Float) → None ≡ option_of x → Err (record { reason = NoExactFloat; place = start }) ≡ returned (the (calls.real x) 23 start)
        go none y = refl
        go (some u) y = cc
