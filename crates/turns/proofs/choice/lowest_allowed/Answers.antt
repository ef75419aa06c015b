use Rattle.tables.proofs.Scans.{scan_none, scan_more, found_some, found_none}
use Rattle.turns.proofs.Turns.{may_is}
use Rattle.turns.proofs.choice.lowest_allowed.Goals as goal

pub loop-t-init : goal.loop-t-init
loop-t-init c = scan_none _ _

pub returns-then-allows : goal.returns-then-allows
returns-then-allows c =
    found_some _ c.loop-t.invariant c.loop-t-test.true (may_is _ _ _ _ c.at.ensures c.at-in-loop-t.ensures c.allows.ensures c.if-allows.true)

pub loop-t-preserved : goal.loop-t-preserved
loop-t-preserved c =
    scan_more _ c.loop-t.invariant c.loop-t-test.true
    (may_is _ _ _ _ c.at.ensures c.at-in-loop-t.ensures c.allows.ensures c.if-allows.false)

pub returns : goal.returns
returns c = found_none _ c.loop-t.invariant c.loop-t-test.false
