-- Rows to the end: the plan that the walk over them starts from, its answer, and the plan that it leaves.
use Rattle.std.specs.Prelude.{ℕ, ◌+◌, ◌-◌, ◌%◌, ◌≤◌, ◌<◌, min, ◌≡◌, ◌⊎◌, List, [], ◌++◌, map, length, take, drop, Result, IfOk}
use Rattle.fdoca.specs.declared.Refusal.{Refusal}
use Rattle.fdoca.specs.Basics.{ok, ◌>>=◌}
use Rattle.fdoca.specs.Item.{Field}
use Rattle.fdoca.specs.Returned.{answer}
use Rattle.fdoca.specs.Walk.{Note, rows_from}
use Rattle.fields.specs.Plan.{entry_of, Planned}
use Rattle.walks.specs.Marks.{mark_of}

-- Entries without their marks.
abbrev pub unmarked : List ℕ → List ℕ
unmarked es = map (λ e. e % 281474976710656) es

-- The m entries from `before` on are those from k on, or stand before them.
abbrev pub Apart : (before m k : ℕ) → Type 0
Apart before m k = (k ≡ before) ⊎ (before + m ≤ k)

-- The numbers es have the entries of one pass over the rows behind the first `before`, marked or not, as far as there is room.
abbrev pub wide : (es : List ℕ) (before once : ℕ) → ℕ
wide es before once = min once (length es - before)

pub record PassPlan (es : List ℕ) (before once : ℕ) (rows : List Field) : Type 0 where
  pub proper_rows : Planned (map entry_of rows) rows
  pub once_is : length rows ≡ once
  pub has_room : before ≤ length es
  pub has_rows : 0 < once
  pub entries : take (wide es before once) (unmarked (drop before es)) ≡ map entry_of (take (wide es before once) rows)

pub record IsPassPlan (es : List ℕ) (before once : ℕ) : Type 0 where
  pub rows : List Field
  pub pass_plan : PassPlan es before once rows

-- The answer of the walk over the rows from the place o of the data s on, behind `before` items, with room for as many items as the plan es has entries,
-- and the plan that it leaves.
pub record MarkedPasses (r : Result ℕ Refusal) (es plan : List ℕ) (before o : ℕ) (rows : List Field) (s : List ℕ) : Type 0 where
  pub answered : answer r ≡ (rows_from (length es - before) o rows [] (drop o s) >>= λ ns. ok (before + length ns))
  pub marks : (ns : List Note) → rows_from (length es - before) o rows [] (drop o s) ≡ ok ns → take (before + length ns) plan ≡ take before es ++ map mark_of ns
  pub same_length : length plan ≡ length es
  pub few : IfOk r (λ n. n ≤ length es)

-- The numbers es begin with the entries of the fields bs, which stand before the rows, and those of one pass over the rows, as far as there is room.
pub record RowPlan (es : List ℕ) (before once : ℕ) (bs rows : List Field) : Type 0 where
  pub proper_before : Planned (map entry_of bs) bs
  pub proper_rows : Planned (map entry_of rows) rows
  pub before_is : length bs ≡ before
  pub once_is : length rows ≡ once
  pub has_room : before ≤ length es
  pub has_rows : 0 < once
  pub entries : take (before + once) es ≡ take (length es) (map entry_of (bs ++ rows))

pub record IsRowPlan (es : List ℕ) (before once : ℕ) : Type 0 where
  pub fields_before : List Field
  pub rows : List Field
  pub row_plan : RowPlan es before once fields_before rows

-- The answer of the walk over the fields bs and then the rows to the end of the data s, with room for as many items as the plan es has entries, and the
-- plan that it leaves: in a good block its first entries are the items' marks.
pub record MarkedRows (r : Result ℕ Refusal) (es plan : List ℕ) (bs rows : List Field) (s : List ℕ) : Type 0 where
  pub answered : answer r ≡ (rows_from (length es) 0 rows bs s >>= λ ns. ok (length ns))
  pub marks : (ns : List Note) → rows_from (length es) 0 rows bs s ≡ ok ns → take (length ns) plan ≡ map mark_of ns
  pub same_length : length plan ≡ length es
  pub few : IfOk r (λ n. n ≤ length es)
