use Rattle.std.proofs.Common.{arith}
use Rattle.kernels.specs.Limits.{most_expressions}
use Rattle.values.proofs.Several.{can_fill, laid_none, laid_more, laid_all}
use Rattle.values.proofs.wide.fill_rows.Goals as goal

pub loop-i-init : goal.loop-i-init
loop-i-init c = laid_none _ _ _ _ c.requires.0

pub overflow_add-i-end : goal.overflow_add-i-end
unfolding most_expressions
overflow_add-i-end c = let C = c.requires.1 in omega (arith, C.few)

pub fill_row-requires : goal.fill_row-requires
fill_row-requires c = can_fill c.requires.1 (omega arith) (omega arith)

pub loop-i-preserved : goal.loop-i-preserved
loop-i-preserved c = laid_more _ _ _ _ _ c.loop-i.invariant _ c.fill_row.ensures

pub returns : goal.returns
returns c = laid_all _ _ _ c.loop-i.invariant (omega arith) c.requires.1
