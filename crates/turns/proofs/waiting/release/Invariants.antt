-- `release` meets its contract: the threads that the loop has passed are released. Assumes nothing.
use mathlib.Core.Path.{◌≡◌}
use Rattle.turns.specs.Turns.{let_go_of}
use Rattle.turns.proofs.Fronts.{map_front}
use Rattle.turns.proofs.waiting.release.Given as goal

abbrev pub invariant-loop-wait : goal.invariant-loop-wait
invariant-loop-wait l = l.waits ≡ map_front (let_go_of l.w) l.wait-index l.initial.waits
