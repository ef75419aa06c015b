-- `review_text` meets its contract. Assumes nothing.
use mathlib.Core.Path.{refl}
use native.Mathlib.Omega.{arith}
use borrow.Author.Rules.{rules}
use Rattle.desk.specs.Promise.{least_room}
use Rattle.desk.proofs.Reports.{refused_room, reviewed_text}
use Rattle.desk.proofs.review_text.Goals as goal

pub returns-then-report-lt-BYTES : goal.returns-then-report-lt-BYTES
unfolding least_room
returns-then-report-lt-BYTES c = refused_room _ (omega (arith, c.if-report-lt-BYTES.true))

pub returns : goal.returns
unfolding least_room
returns c = reviewed_text _ (omega (arith, c.if-report-lt-BYTES.false)) c.conclude-concluded.ensures.concludes.concludes refl c.print.ensures (search rules)
