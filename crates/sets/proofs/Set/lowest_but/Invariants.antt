-- `Set::lowest_but` meets its contract: the words that the loop has passed have no such thread. Assumes nothing.
use Rattle.sets.proofs.Sets.{Passed}
use Rattle.sets.proofs.Set.lowest_but.Given as goal

abbrev pub invariant-loop-i : goal.invariant-loop-i
invariant-loop-i l = Passed l.self l.other l.i
