use mathlib.Core.Path.{sym}
use native.Mathlib.Omega.{arith}
use borrow.Author.Count.{below_none, below_more}
use Rattle.kernels.proofs.Finds.{found_first, found_none}
use Rattle.kernels.proofs.rows.first.Goals as goal

pub loop-i-init : goal.loop-i-init
loop-i-init g c p h = below_none _

pub returns-then-test : goal.returns-then-test
returns-then-test g c p h =
    found_first p _ c.loop-i-test.true (c.loop-i.invariant p h) (sym (h _ _ c.loop-i-test.true c.if-test.ensures))

pub loop-i-preserved : goal.loop-i-preserved
loop-i-preserved g c p h = below_more _ _ (c.loop-i.invariant p h) (sym (h _ _ c.loop-i-test.true c.if-test.ensures))

pub returns : goal.returns
returns g c p h = found_none p _ (λ k l. c.loop-i.invariant p h k (omega arith))
