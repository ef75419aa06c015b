-- `review_evidence` meets its contract: refused before a room is touched; or reviewed, and shown. Assumes nothing.
use mathlib.Core.Path.{sym, ap}
use Rattle.verdicts.specs.declared.Told.{Told}
use Rattle.evidence.proofs.Doors.{evidenced_refused, admissible, evidenced}
use Rattle.evidence.proofs.door.review_evidence.Goals as goal

pub returns-in-Err : goal.returns-in-Err
returns-in-Err c = rw c.bare.ensures (evidenced_refused _ _ _ _ _ _ _ c.in-Err.ensures c.into.ensures)

pub review_shown-requires : goal.review_shown-requires
review_shown-requires c = admissible _ _ _ _ _ (ap (λ (t : Told). t.number) (sym c.in_default.ensures))

pub returns : goal.returns
returns c = evidenced _ _ _ _ _ _ (ap (λ (t : Told). t.number) (sym c.in_default.ensures)) c.review_shown.ensures
