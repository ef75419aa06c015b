-- `first_rows` meets its contract: the loop has come to a thread with the sum of the lengths before it. Assumes nothing.
use mathlib.Core.Path.{◌≡◌}
use lib.ListN.{length}
use Rattle.tables.specs.Limits.{most_threads}
use Rattle.steps.proofs.Stepping.{Begins}
use Rattle.steps.proofs.firsts.first_rows.Given as goal

abbrev pub invariant-loop-t : goal.invariant-loop-t
invariant-loop-t l = (length l.firsts ≡ most_threads) × Begins l.lengths l.firsts l.sum l.t
