use mathlib.Core.Path.{◌≡◌, refl}
use native.Mathlib.Omega.{arith}
use Rattle.runs.proofs.Running.{going_start, run_done, run_spent, run_high, run_full, run_on}
use Rattle.runs.proofs.run_from.Goals as goal

pub loop-taken-init : goal.loop-taken-init
loop-taken-init c = going_start _ _ _ _ _ _ _ _ c.requires refl c.start_warp-stand.auto.stack c.start_warp-stand.ensures

pub returns-then-stand-eq0 : goal.returns-then-stand-eq0
returns-then-stand-eq0 c = run_done _ _ _ _ _ _ _ _ _ c.loop-taken.invariant (omega (arith, c.if-stand-eq0.true))

pub returns-then-stand-gt-ENTRIES : goal.returns-then-stand-gt-ENTRIES
returns-then-stand-gt-ENTRIES c =
    run_high _ _ _ _ _ _ _ _ _ c.loop-taken.invariant (omega (arith, c.if-stand-eq0.false)) (omega arith) c.if-stand-gt-ENTRIES.true

pub returns-then-stand-gt-ENTRIES-2 : goal.returns-then-stand-gt-ENTRIES-2
returns-then-stand-gt-ENTRIES-2 c =
    run_full _ _ _ _ _ _ _ _ _ c.loop-taken.invariant _ _ _ c.step_warp-stand.ensures c.requires (omega (arith, c.if-stand-eq0.false)) (omega arith) c.if-stand-gt-ENTRIES.false (omega (arith, c.if-stand-gt-ENTRIES-2.true))

pub loop-taken-preserved : goal.loop-taken-preserved
loop-taken-preserved c =
    run_on _ _ _ _ _ _ _ _ _ c.loop-taken.invariant _ _ _ c.step_warp-stand.ensures c.requires (omega (arith, c.if-stand-eq0.false)) (omega arith) c.if-stand-gt-ENTRIES.false (omega (arith, c.if-stand-gt-ENTRIES-2.false)) c.step_warp-stand.auto.stack c.step_warp-stand.auto.cells

pub returns-then-stand-eq0-2 : goal.returns-then-stand-eq0-2
returns-then-stand-eq0-2 c =
    let all : c.loop-taken.taken ≡ c.args.steps = omega arith in rw all at (run_done _ _ _ _ _ _ _ _ _ c.loop-taken.invariant (omega (arith, c.if-stand-eq0-2.true)))

pub returns-else-stand-eq0-2 : goal.returns-else-stand-eq0-2
returns-else-stand-eq0-2 c =
    let all : c.loop-taken.taken ≡ c.args.steps = omega arith in rw all at (run_spent _ _ _ _ _ _ _ _ _ c.loop-taken.invariant (omega (arith, c.if-stand-eq0-2.false)) all)
