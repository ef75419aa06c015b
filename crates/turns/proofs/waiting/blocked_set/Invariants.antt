-- `blocked_set` meets its contract: the threads that the loop has passed are in the set, or not. Assumes nothing.
use mathlib.Core.Path.{◌≡◌}
use Rattle.turns.specs.Ready.{held_below}
use Rattle.turns.proofs.waiting.blocked_set.Given as goal

abbrev pub invariant-loop-t : goal.invariant-loop-t
invariant-loop-t l = l.blocked ≡ held_below l.waits l.t
