-- `Replayed::start` meets its contract: the array has the limit's length. Assumes nothing.
use Rattle.tables.specs.Limits.{most_rows}
use Rattle.steps.specs.Going.{begun}
use Rattle.steps.proofs.going.Replayed.start.Goals as goal

pub returns : goal.returns
unfolding begun most_rows
returns c = rw c.start.ensures
