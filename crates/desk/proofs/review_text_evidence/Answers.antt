-- `review_text_evidence` meets its contract. Assumes nothing.
use mathlib.Core.Path.{refl}
use native.Mathlib.Omega.{arith}
use borrow.Author.Rules.{rules}
use Rattle.tables.specs.Limits.{most_rows}
use Rattle.relation.specs.Table.{width}
use Rattle.desk.specs.Evidence.{least_evidence}
use Rattle.desk.proofs.Evidenced.{evidence_refused, evidenced_text}
use Rattle.desk.proofs.review_text_evidence.Goals as goal

pub returns-then-report-lt-EVIDENCE_BYTES : goal.returns-then-report-lt-EVIDENCE_BYTES
unfolding least_evidence
returns-then-report-lt-EVIDENCE_BYTES c = evidence_refused _ (omega (arith, c.if-report-lt-EVIDENCE_BYTES.true))

pub returns : goal.returns
unfolding least_evidence most_rows width
returns c =
    evidenced_text c.conclude-concluded.ensures.concludes (search rules) (search rules) (search rules) (omega (arith, c.if-report-lt-EVIDENCE_BYTES.false)) refl
    c.print.ensures c.put_exhibits.ensures (search rules)
