use native.Mathlib.Omega.{arith}
use mathlib.Core.Path.{sym, ◌∙◌}
use Rattle.tables.specs.Limits.{barriers}
use Rattle.tables.proofs.Scans.{scan_none, scan_more, found_some, found_none}
use Rattle.steps.proofs.state.Replay.lowest_set.Goals as goal

pub loop-b-init : goal.loop-b-init
loop-b-init c = scan_none _ _

pub returns-then-is_set : goal.returns-then-is_set
unfolding barriers
returns-then-is_set c = found_some _ c.loop-b.invariant (omega arith) (sym c.is_set.ensures ∙ c.if-is_set.true)

pub loop-b-preserved : goal.loop-b-preserved
unfolding barriers
loop-b-preserved c =
    scan_more _ c.loop-b.invariant c.loop-b-test.true (sym c.is_set.ensures ∙ c.if-is_set.false)

pub returns : goal.returns
unfolding barriers
returns c = found_none _ c.loop-b.invariant c.loop-b-test.false
