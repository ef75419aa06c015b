-- `lowest_blocked` meets its contract: no thread that the loop has passed waits. Assumes nothing.
use Rattle.tables.proofs.Scans.{Scanned}
use Rattle.turns.specs.Turns.{held}
use Rattle.turns.proofs.waiting.lowest_blocked.Given as goal

abbrev pub invariant-loop-t : goal.invariant-loop-t
invariant-loop-t l = Scanned (held l.waits) l.threads l.t
