-- `evaluate` meets its contract: the room has the values of the rows that the loop has passed. Assumes nothing.
use Rattle.values.proofs.Filling.{Filled}
use Rattle.values.proofs.rows.evaluate.Given as goal

abbrev pub invariant-loop-i : goal.invariant-loop-i
invariant-loop-i g l = Filled l.expressions l.lane l.cells g.row.N l.values l.i
