-- `thread_row` meets its contract, by whether the thread may step. Assumes nothing.
use mathlib.Core.Path.{◌∙◌}
use Rattle.steps.proofs.RowTests.{thread_stays, thread_goes, with_known}
use Rattle.steps.proofs.row.thread_row.Goals as goal

pub returns-then-not-allows : goal.returns-then-not-allows
returns-then-not-allows c =
    let a = c.args in
    with_known a.commands.now a.lengths.now _ a.first _ _
    (thread_stays a.commands.now a.lengths.now _ a.first _ _ c.allows.ensures c.if-not-allows.true)

pub returns : goal.returns
returns c =
    let a = c.args in
    with_known a.commands.now a.lengths.now _ a.first _ _
    (c.row_at.ensures ∙ thread_goes a.commands.now a.lengths.now _ a.first _ _ c.allows.ensures c.if-not-allows.false)
