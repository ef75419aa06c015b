use Prim.Native.Nat.{◌-◌}
use native.Mathlib.Omega.{arith}
use Rattle.sweeps.proofs.Passes.{still_fits, pass_none, pass_join, pass_part}
use Rattle.sweeps.proofs.Sweeping.{between_more, pass_pair}
use Rattle.sweeps.proofs.sweeps.sweep.Goals as goal

pub loop-e-init : goal.loop-e-init
loop-e-init c = (omega arith, pass_none (λ i k s e. absurd (omega (arith, s.low, s.high))))

pub loop-e-preserved : goal.loop-e-preserved
loop-e-preserved c =
    let l = c.loop-e in
    let a = c.args in (
      omega arith,
      pass_part (between_more a.pairs.now l.e a.end)
          (pass_join l.invariant.1
          (pass_pair a.pairs.now (l.e - 1) (still_fits c.requires.0 l.invariant.1.joins) (omega (arith, c.requires.2)) c.join-changed.ensures)),
    )
