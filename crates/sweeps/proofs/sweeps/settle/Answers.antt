use native.Mathlib.Omega.{arith}
use Rattle.relation.proofs.Truth.{left}
use Rattle.sweeps.specs.Needs.{none}
use Rattle.sweeps.proofs.Passes.{joined_join, pass_join, grows}
use Rattle.sweeps.proofs.Sweeping.{settled}
use Rattle.sweeps.proofs.sweeps.settle.Goals as goal

pub loop-m-init : goal.loop-m-init
loop-m-init c = none

pub returns-then-not-sweep_parts : goal.returns-then-not-sweep_parts
returns-then-not-sweep_parts c =
    settled (joined_join c.loop-m.invariant c.sweep.ensures.joins) c.sweep_parts.ensures c.if-not-sweep_parts.true

pub loop-m-smaller : goal.loop-m-smaller
loop-m-smaller c =
    grows (λ p. omega (arith, c.type_inv.room p)) (left c.sweep.result c.sweep_parts.result c.if-not-sweep.false)
    (pass_join c.sweep.ensures c.sweep_parts.ensures)

pub loop-m-preserved : goal.loop-m-preserved
loop-m-preserved c =
    joined_join c.loop-m.invariant (joined_join c.sweep.ensures.joins c.sweep_parts.ensures.joins)
