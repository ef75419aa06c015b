-- `Replay::start` meets its contract: the arrays have the limits' lengths. Assumes nothing.
use borrow.Author.Rules.{rules}
use Rattle.tables.specs.Limits.{most_threads, barriers}
use Rattle.steps.specs.State.{start}
use Rattle.steps.proofs.state.Replay.start.Goals as goal

pub returns : goal.returns
unfolding start most_threads barriers
returns c = search rules
