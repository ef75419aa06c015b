-- `row_at` meets its contract, by the kind and then by the barrier. Assumes nothing.
use Rattle.tables.specs.Limits.{barriers}
use Rattle.steps.proofs.RowTests.{row_low, row_past, row_enters}
use Rattle.steps.proofs.row.row_at.Goals as goal

pub returns-then-kind-lt-ARRIVE : goal.returns-then-kind-lt-ARRIVE
returns-then-kind-lt-ARRIVE c = row_low _ _ c.at-kind.ensures c.at-barrier.ensures c.if-kind-lt-ARRIVE.true

pub returns-then-barrier-ge-BARRIERS : goal.returns-then-barrier-ge-BARRIERS
unfolding barriers
returns-then-barrier-ge-BARRIERS c =
    row_past _ _ c.at-kind.ensures c.at-barrier.ensures c.if-kind-lt-ARRIVE.false c.if-barrier-ge-BARRIERS.true

pub returns : goal.returns
unfolding barriers
returns c =
    row_enters _ _ c.at-kind.ensures c.at-barrier.ensures c.if-kind-lt-ARRIVE.false c.if-barrier-ge-BARRIERS.false c.at.ensures
