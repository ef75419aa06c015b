-- `fill_pair` meets its contract: what the loop reads it has not yet written. Assumes nothing.
use Rattle.std.proofs.Common.{ℕ}
use Rattle.kernels.specs.Rows.{expression_number}
use Rattle.values.specs.Needs.{StripDone}
use Rattle.values.proofs.wide.fill_pair.Given as goal

abbrev pub invariant-loop-k : goal.invariant-loop-k
invariant-loop-k l = ((x held : ℕ) → StripDone (expression_number l.kind) x held l.a l.b l.to l.k l.initial.values l.values)
