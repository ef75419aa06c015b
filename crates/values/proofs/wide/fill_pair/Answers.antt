use Rattle.std.proofs.Common.{arith}
use Rattle.values.proofs.Several.{strip_none, pair_more, strip_all}
use Rattle.values.proofs.wide.fill_pair.Goals as goal

pub loop-k-init : goal.loop-k-init
loop-k-init c x held = strip_none

pub loop-k-preserved : goal.loop-k-preserved
loop-k-preserved c x held =
    pair_more (c.loop-k.invariant x held) c.requires.1 c.loop-k-test.true (c.pair_value.ensures x held _)

pub returns : goal.returns
returns c x held = strip_all (omega arith) (c.loop-k.invariant x held)
