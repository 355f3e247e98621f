-- Where an item's value lies in the data, and the part of the data that is lent.
use Rattle.std.specs.Prelude.{ℕ, ◌+◌, ◌≡◌, List, Result}
use Rattle.std.specs.Borrow.{Bor}
use Rattle.fdoca.specs.declared.Refusal.{Refusal}
use Rattle.fdoca.specs.Basics as defined
use Rattle.fdoca.specs.Basics.{refuse, ok, ◌>>=◌}
use Rattle.fdoca.specs.Returned.{returned}
use Rattle.fdoca.specs.Walk.{Note}
use Rattle.fdoca.specs.Calls.{lent}
use Rattle.blocks.specs.declared.Lent.{Lent}

-- The place of an item's value: so many bytes behind the data's beginning, and so long. A null's is empty, right behind its indicator.
abbrev pub lent_at : defined.Result Note → Result Lent Refusal
lent_at x = returned (x >>= λ i. ok (record { offset = i.start + i.lead; length = i.value }))

-- How far behind the data's beginning the lent part stands: on a refusal it is there.
abbrev pub offset_of : defined.Result Note → ℕ
offset_of (refuse n p) = 0
offset_of (ok i) = i.start + i.lead

-- The lent part r of the data s: it has the value's bytes, and its address is that of the value's place, also where it is empty.
pub record LentPart (x : defined.Result Note) (s r : Bor (List ℕ)) : Type 0 where
  pub bytes : r.now ≡ lent s.now x
  pub address : r.ref_ptr ≡ (s.ref_ptr.0, s.ref_ptr.1 + offset_of x)
