-- `Barrier::register` meets its contract, by the phase and the count. Assumes nothing.
use mathlib.Core.Path.{◌∙◌}
use native.Mathlib.Omega.{arith}
use Rattle.barriers.proofs.Registering.{registers_unset, registers_other, registers_same}
use Rattle.barriers.proofs.barrier.Barrier.register.Goals as goal

pub returns-then-expected-count : goal.returns-then-expected-count
returns-then-expected-count c = registers_other _ _ c.in-Expecting.is (λ e. omega (arith, c.if-expected-count.true))

pub returns-in-Unset : goal.returns-in-Unset
returns-in-Unset c = c.join.ensures ∙ registers_unset _ _ c.in-Unset.is

pub returns-else-expected-count : goal.returns-else-expected-count
returns-else-expected-count c = c.join-in-Expecting.ensures ∙ registers_same _ _ c.in-Expecting.is (omega (arith, c.if-expected-count.false))
