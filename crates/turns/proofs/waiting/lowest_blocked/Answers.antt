use mathlib.Core.Path.{sym, ◌∙◌}
use Rattle.tables.proofs.Scans.{scan_none, scan_more, found_some, found_none}
use Rattle.turns.proofs.waiting.lowest_blocked.Goals as goal

pub loop-t-init : goal.loop-t-init
loop-t-init c = scan_none _ _

pub returns-then-is_held : goal.returns-then-is_held
returns-then-is_held c = found_some _ c.loop-t.invariant c.loop-t-test.true (sym c.is_held.ensures ∙ c.if-is_held.true)

pub loop-t-preserved : goal.loop-t-preserved
loop-t-preserved c =
    scan_more _ c.loop-t.invariant c.loop-t-test.true (sym c.is_held.ensures ∙ c.if-is_held.false)

pub returns : goal.returns
returns c = found_none _ c.loop-t.invariant c.loop-t-test.false
