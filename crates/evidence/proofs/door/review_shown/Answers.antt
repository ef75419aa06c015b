-- `review_shown` meets its contract: reviewed, and shown. Assumes nothing.
use Rattle.evidence.proofs.Shown.{showable}
use Rattle.evidence.proofs.Doors.{shown_holds}
use Rattle.evidence.proofs.door.review_shown.Goals as goal

pub show-entries-requires : goal.show-entries-requires
show-entries-requires c = let p = c.requires in showable c.review-finding.ensures p.admitted p.fits

pub returns : goal.returns
returns c = let r = c.review-finding.ensures in (r, shown_holds c.requires.admitted r c.show-entries.ensures)
