-- `value` meets its contract, within the limit and past it. Assumes nothing.
use Rattle.std.proofs.Common.{arith}
use Rattle.kernels.specs.Limits.{most_expressions}
use Rattle.values.proofs.Filling.{past_limit}
use Rattle.values.proofs.rows.value.Goals as goal

pub evaluate-requires : goal.evaluate-requires
unfolding most_expressions
evaluate-requires c = (omega arith, omega arith, omega arith)

pub evaluate-requires-then-root-lt-EXPRESSIONS : goal.evaluate-requires-then-root-lt-EXPRESSIONS
unfolding most_expressions
evaluate-requires-then-root-lt-EXPRESSIONS c = (omega arith, omega arith, omega arith)

pub returns : goal.returns
unfolding most_expressions
returns c = past_limit _ _ _ _ c.if-root-lt-EXPRESSIONS.false
