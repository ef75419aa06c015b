use Rattle.std.proofs.Common.{arith}
use Rattle.values.proofs.Several.{strip_none, strip_more, strip_all}
use Rattle.values.proofs.wide.fill_leaf.Goals as goal

pub loop-k-init : goal.loop-k-init
loop-k-init c a b = strip_none

pub loop-k-preserved : goal.loop-k-preserved
loop-k-preserved c a b = strip_more (c.loop-k.invariant a b) (omega arith) (c.leaf_value.ensures _ _)

pub returns : goal.returns
returns c a b = strip_all (omega arith) (c.loop-k.invariant a b)
