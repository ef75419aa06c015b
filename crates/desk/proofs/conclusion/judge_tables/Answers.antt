-- `judge_tables` meets its contract. Assumes nothing.
use mathlib.Core.Path.{sym}
use lib.Seq.{length-take-le}
use Rattle.desk.proofs.Tabled.{full_rows, steps_fit, steps_are, judged_tables}
use Rattle.desk.proofs.conclusion.judge_tables.Goals as goal

pub slice_bounds-schedule-end : goal.slice_bounds-schedule-end
slice_bounds-schedule-end c = let w = c.write_schedule in steps_fit full_rows _ w.ensures c.unwrap_or-steps.ensures w.auto.room

pub slice_bounds-review-end : goal.slice_bounds-review-end
slice_bounds-review-end c =
    let w = c.write_schedule in
    sym (length-take-le _ w.new.room (steps_fit full_rows _ w.ensures c.unwrap_or-steps.ensures w.auto.room))

pub returns : goal.returns
returns c =
    let w = c.write_schedule in
    let p = c.requires in
    judged_tables c.review-found.ensures p.wide p.high c.told.ensures (λ e. steps_are full_rows _ w.ensures c.unwrap_or-steps.ensures e)
