-- `evidence_of` meets its contract: its room begins as zeros. Assumes nothing.
use Rattle.desk.specs.Evidence.{least_evidence}
use Rattle.cuckoomoss.proofs.Printing.{exhibits_held}
use Rattle.cuckoomoss.proofs.evidence_of.Goals as goal

pub returns : goal.returns
unfolding least_evidence
returns c = exhibits_held c.review_text_evidence.ensures c.before_zero-len.ensures
