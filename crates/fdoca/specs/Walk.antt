-- The walk (document 01, "Unfolding and walk"; document 02, Q-5): the items of a list of fields, one after the other, in the data.
use Rattle.std.specs.Prelude.{ℕ, zero, suc, ◌+◌, Bool, true, false, List, [], ◌∷◌, ltb, length, drop, if◌then◌else◌}
use Rattle.std.proofs.Math.Option.{Option, none, some}
use Rattle.fdoca.specs.Basics.{Result, refuse, ok, ◌>>=◌, ◌>>◌, reject}
use Rattle.fdoca.specs.Item.{Field, Measured, refused, item, measure}
use Rattle.fdoca.specs.Check.{max_items}

-- What is noted of an item: its position, its field with id and type code, its null mark, and the lengths of its three parts.
pub record Note : Type 0 where
  pub start : ℕ
  pub field : Field
  pub is_null : Bool
  pub lead : ℕ
  pub value : ℕ
  pub spare : ℕ

-- An item's length: all its bytes.
abbrev pub item_length : Note → ℕ
item_length n = n.lead + n.value + n.spare

-- Items that were cut from the data, the position behind them, and the bytes from there on.
pub record Cut : Type 0 where
  pub notes : List Note
  pub end : ℕ
  pub rest : List ℕ

-- The note of an item that was measured at position p; the walk stops with the number of a refusal, and the position.
unfoldable pub note_of : Field → (p : ℕ) → Measured → Result Note
note_of f p (refused n) = refuse n p
note_of f p (item z l v r) = ok (record { start = p; field = f; is_null = z; lead = l; value = v; spare = r })

abbrev pub with : Note → Cut → Cut
with n c = record { notes = n ∷ c.notes; end = c.end; rest = c.rest }

-- The items of the fields in turn, from position p on, where the bytes s stand.
unfoldable pub cut_from : (p : ℕ) → List Field → List ℕ → Result Cut
cut_from p [] s = ok (record { notes = []; end = p; rest = s })
cut_from p (f ∷ fs) s =
    note_of f p (measure f s) >>= λ n.
    cut_from (p + item_length n) fs (drop (item_length n) s) >>= λ c.
    ok (with n c)

-- The walk: the items from position 0 on. Bytes left after the last field stop it with 16.
unfoldable pub walk : List Field → List ℕ → Result (List Note)
walk fs s = do
  c ← cut_from 0 fs s
  reject (ltb 0 (length c.rest)) 16 c.end
  ok c.notes

-- Rows to the end (Q-5): the unfolding ends in the repeated layout over and over. Behind the fields fs, which are left of a pass or stand before the
-- first one, comes a whole pass.
abbrev pub coming : (rows fs : List Field) → List Field
coming rows [] = rows
coming rows (f ∷ fs) = f ∷ fs

-- A pass would begin with no data left.
abbrev pub used_up : List Field → List ℕ → Bool
used_up [] [] = true
used_up [] (b ∷ s) = false
used_up (f ∷ fs) s = false

-- The item of the first field, and then the others. A repeated layout has a field, so the case marked * does not occur.
abbrev pub item_then : List Field → (p : ℕ) → List ℕ → (Note → List Field → Result (List Note)) → Result (List Note)
item_then [] p s others = ok []  -- *
item_then (f ∷ fs) p s others = note_of f p (measure f s) >>= λ n. others n fs >>= λ ns. ok (n ∷ ns)

-- The items from position p on, where the bytes s stand: at most `room`. The walk ends where a pass would begin with no data left; the item beyond the
-- room is number 10 at its start, before it is measured.
unfoldable pub rows_from : (room p : ℕ) → (rows fs : List Field) → List ℕ → Result (List Note)
rows_from zero p rows fs s = if used_up fs s then ok [] else refuse 10 p
rows_from (suc room) p rows fs s =
    if used_up fs s then ok []
    else item_then (coming rows fs) p s (λ n left. rows_from room (p + item_length n) rows left (drop (item_length n) s))

unfoldable pub walk_rows : (before rows : List Field) → List ℕ → Result (List Note)
walk_rows before rows s = rows_from max_items 0 rows before s

-- The walk over an unfolding: its fields, and the repeated layout of rows to the end, if there is one.
unfoldable pub walk_by : List Field → Option (List Field) → List ℕ → Result (List Note)
walk_by fs none s = walk fs s
walk_by fs (some rows) s = walk_rows fs rows s
