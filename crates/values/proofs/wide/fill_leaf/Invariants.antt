-- `fill_leaf` meets its contract: the lanes that the loop has passed have their values. Assumes nothing.
use Rattle.std.proofs.Common.{ℕ}
use Rattle.kernels.specs.Rows.{expression_number}
use Rattle.values.specs.Needs.{StripDone}
use Rattle.values.proofs.wide.fill_leaf.Given as goal

abbrev pub invariant-loop-k : goal.invariant-loop-k
invariant-loop-k l = ((a b : ℕ) → StripDone (expression_number l.kind) l.x l.held a b l.to l.k l.initial.values l.values)
