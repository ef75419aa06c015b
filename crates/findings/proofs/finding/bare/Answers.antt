-- `bare` meets its contract: an empty sheet is that of no pairs. Assumes nothing.
use Rattle.findings.proofs.finding.bare.Goals as goal

pub returns : goal.returns
returns c = simp c.empty.ensures
