use Prim.Native.Nat.{◌-◌, ◌≤◌}
use lib.ListN.{length}
use Rattle.descriptors.specs.Holds.{Held, LastAt}
use Rattle.descriptors.proofs.examine.Given as goal

abbrev pub invariant-loop-p : goal.invariant-loop-p
invariant-loop-p l =
    record {
      held : Held l.desc l.tables l.p l.x;
      small : length l.desc ≤ 4096;
      last_at : LastAt l.desc l.last l.p;
      not_behind : l.last ≤ l.p;
    }

abbrev pub decreases-loop-p : goal.decreases-loop-p
decreases-loop-p l = length l.desc - l.p
