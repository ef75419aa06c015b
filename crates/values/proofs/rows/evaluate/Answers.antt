use Rattle.std.proofs.Common.{arith}
use Rattle.kernels.specs.Limits.{most_expressions}
use Rattle.values.proofs.Filling.{filled_none, filled_more, in_limit}
use Rattle.values.proofs.rows.evaluate.Goals as goal

pub loop-i-init : goal.loop-i-init
loop-i-init g c = filled_none _ _ _ _

pub shared_whole_as_slice-row_value : goal.shared_whole_as_slice-row_value
unfolding most_expressions
shared_whole_as_slice-row_value g c = omega arith

pub offset_bounds-values-i : goal.offset_bounds-values-i
unfolding most_expressions
offset_bounds-values-i g c = omega arith

pub loop-i-preserved : goal.loop-i-preserved
loop-i-preserved g c = filled_more _ _ _ _ _ _ _ c.loop-i.invariant (omega arith) c.row_value.ensures

pub offset_bounds-values-root : goal.offset_bounds-values-root
unfolding most_expressions
offset_bounds-values-root g c = omega arith

pub returns : goal.returns
returns g c = in_limit _ _ _ _ _ (omega arith) (c.loop-i.invariant.past _ (omega arith))
