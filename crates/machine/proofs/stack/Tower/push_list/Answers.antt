use mathlib.Core.Path.{refl}
use native.Mathlib.Omega.{arith}
use Rattle.kernels.specs.Limits.{most_statements}
use Rattle.machine.proofs.Held.{piled_start, piled_hit, piled_miss, piled_end}
use Rattle.machine.proofs.stack.Tower.push_list.Goals as goal

pub loop-i-init : goal.loop-i-init
loop-i-init c = piled_start _ _ _ _

pub offset_bounds-self-self : goal.offset_bounds-self-self
unfolding most_statements
offset_bounds-self-self c = let P = c.loop-i.invariant in omega (arith, P.low, P.up, P.stays.long)

pub bounds-self-self : goal.bounds-self-self
unfolding most_statements
bounds-self-self c = let P = c.loop-i.invariant in omega (arith, P.low, P.up, P.stays.long)

pub loop-i-preserved-then-code-i : goal.loop-i-preserved-then-code-i
unfolding most_statements
loop-i-preserved-then-code-i c =
    piled_hit _ _ _ _ _ _ c.loop-i.invariant c.loop-i-test.true (omega arith) (omega arith) c.if-code-i.true _ refl refl refl

pub loop-i-preserved : goal.loop-i-preserved
loop-i-preserved c = piled_miss _ _ _ _ _ _ c.loop-i.invariant c.loop-i-test.true c.if-code-i.false

pub returns : goal.returns
unfolding most_statements
returns c = piled_end _ _ _ _ _ _ c.loop-i.invariant c.loop-i-test.false (omega arith)
