-- `is_held` meets its contract, by its tests. Assumes nothing.
use Rattle.tables.specs.Limits.{most_threads}
use Rattle.turns.proofs.Turns.{held_is}
use Rattle.turns.proofs.waiting.is_held.Goals as goal

pub returns : goal.returns
unfolding most_threads
returns c = held_is _ _ c.at.ensures
