-- `push_list` meets its contract: the rows from i on that have the list are piled. Assumes nothing.
use Rattle.kernels.specs.Rows.{statements}
use Rattle.machine.proofs.Held.{Piled}
use Rattle.machine.proofs.stack.Tower.push_list.Given as goal

abbrev pub invariant-loop-i : goal.invariant-loop-i
invariant-loop-i l = Piled l.code l.b (statements l.code) l.initial.self l.self l.i
