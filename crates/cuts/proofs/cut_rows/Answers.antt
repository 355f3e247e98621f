use Rattle.cuts.proofs.Cutting.{before_is, before_fits, rows_there, pass_at, room_at, plan_most, is_row_plan, marks_most, rows_cut}
use borrow.Author.Rules.{rules}
use Rattle.cuts.proofs.cut_rows.Goals as goal

pub overflow_sub-g : goal.overflow_sub-g
overflow_sub-g c = search (rows_there)

pub write-once-requires : goal.write-once-requires
write-once-requires c = search (rules, before_is, before_fits, pass_at, room_at, plan_most)

pub mark_rows-requires : goal.mark_rows-requires
mark_rows-requires c = search (rules, is_row_plan, marks_most)

pub returns : goal.returns
returns c = search (rows_cut)
