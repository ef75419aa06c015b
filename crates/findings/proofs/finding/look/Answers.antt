-- `look` meets its contract: the reuse faults, or where there is none the races. Assumes nothing.
use Rattle.findings.proofs.Looks.{looked_reuse, looked_race}
use Rattle.findings.proofs.finding.look.Goals as goal

pub returns-then-reuses-ne0 : goal.returns-then-reuses-ne0
returns-then-reuses-ne0 c = looked_reuse _ _ c.find_kind-reuses.ensures c.if-reuses-ne0.true

pub returns : goal.returns
returns c = looked_race _ _ c.find_kind-reuses.ensures c.if-reuses-ne0.false c.find_kind.ensures
