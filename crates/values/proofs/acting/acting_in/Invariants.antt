-- `acting_in` meets its contract: the word has the lanes that the loop has passed. Assumes nothing.
use Rattle.std.proofs.Common.{◌≡◌}
use Rattle.values.specs.Expressions.{expression, acting}
use Rattle.values.proofs.acting.acting_in.Given as goal

abbrev pub invariant-loop-t : goal.invariant-loop-t
invariant-loop-t l = l.found ≡ acting l.mask (expression l.expressions l.root) l.cells l.t
