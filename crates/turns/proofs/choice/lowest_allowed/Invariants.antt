-- `lowest_allowed` meets its contract: no thread that the loop has passed may step. Assumes nothing.
use lib.ListN.{length}
use Rattle.tables.proofs.Scans.{Scanned}
use Rattle.turns.specs.Turns.{may_step}
use Rattle.turns.proofs.choice.lowest_allowed.Given as goal

abbrev pub invariant-loop-t : goal.invariant-loop-t
invariant-loop-t l = Scanned (may_step l.lengths l.next l.waits) (length l.lengths) l.t
