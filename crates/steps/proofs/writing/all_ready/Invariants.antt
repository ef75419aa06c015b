-- `all_ready` meets its contract: the threads that the loop has passed are looked at. Assumes nothing.
use Rattle.turns.proofs.Kept.{LookedBelow}
use Rattle.steps.proofs.writing.all_ready.Given as goal

abbrev pub invariant-loop-t : goal.invariant-loop-t
invariant-loop-t l = LookedBelow l.lengths l.early l.next l.ready l.t
