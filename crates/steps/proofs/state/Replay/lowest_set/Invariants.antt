-- `Replay::lowest_set` meets its contract: no barrier that the loop has passed is set. Assumes nothing.
use Rattle.tables.specs.Limits.{barriers}
use Rattle.steps.specs.Ending.{barrier_set}
use Rattle.tables.proofs.Scans.{Scanned}
use Rattle.steps.proofs.state.Replay.lowest_set.Given as goal

abbrev pub invariant-loop-b : goal.invariant-loop-b
invariant-loop-b l = Scanned (barrier_set l.self) barriers l.b
