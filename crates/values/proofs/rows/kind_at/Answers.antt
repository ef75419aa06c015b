-- `kind_at` meets its contract: a number past the kinds is a less-than. Assumes nothing.
use Rattle.std.proofs.Common.{arith}
use Rattle.kernels.specs.Limits.{most_expressions}
use Rattle.values.proofs.Filling.{kind_by}
use Rattle.values.proofs.rows.kind_at.Goals as goal

pub overflow_mul-i : goal.overflow_mul-i
unfolding most_expressions
overflow_mul-i c = omega arith

pub returns : goal.returns
returns c = rw (← c.at.ensures, c.unwrap_or.ensures) (kind_by _ _ c.of.ensures)
