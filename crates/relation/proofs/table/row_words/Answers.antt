-- Assumes nothing.
use native.Mathlib.Omega.{arith}
use Rattle.relation.specs.Table.{width}
use Rattle.relation.proofs.table.row_words.Goals as goal

pub returns : goal.returns
unfolding width
returns c = omega arith
