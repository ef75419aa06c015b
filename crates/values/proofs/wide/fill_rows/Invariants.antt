-- `fill_rows` meets its contract: the rows that the loop has passed have their values. Assumes nothing.
use Rattle.values.proofs.Several.{Laid}
use Rattle.values.proofs.wide.fill_rows.Given as goal

abbrev pub invariant-loop-i : goal.invariant-loop-i
invariant-loop-i l = Laid l.expressions l.count l.cells l.values l.i
