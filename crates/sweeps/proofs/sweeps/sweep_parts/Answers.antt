use native.Mathlib.Omega.{arith}
use Rattle.sweeps.proofs.Passes.{pass_none, pass_join, pass_part}
use Rattle.sweeps.proofs.Sweeping.{between_on}
use borrow.Author.Rules.{rules}
use Rattle.sweeps.proofs.sweeps.sweep_parts.Goals as goal

pub loop-part-init : goal.loop-part-init
loop-part-init c = (omega arith, pass_none (λ i k s e. absurd (omega (arith, s.high))))

pub loop-part-preserved : goal.loop-part-preserved
loop-part-preserved c =
    let l = c.loop-part in
    let a = c.args in
    (search rules, pass_part (between_on a.pairs.now l.first _) (pass_join l.invariant.1 c.sweep-changed.ensures))

pub returns : goal.returns
returns c =
    let l = c.loop-part in
    let a = c.args in
    pass_part (between_on a.pairs.now l.first _) (pass_join l.invariant.1 c.sweep.ensures)
