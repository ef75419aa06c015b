-- `put_shown` meets its contract, by what is shown. Assumes nothing.
use Rattle.wording.specs.Lines.{shown_line}
use Rattle.wording.proofs.put_shown.Goals as goal

pub returns-in-Mismatch : goal.returns-in-Mismatch
unfolding shown_line
returns-in-Mismatch c = rw c.in-Mismatch.is c.put_within.ensures

pub returns-in-Deadlock : goal.returns-in-Deadlock
unfolding shown_line
returns-in-Deadlock c = rw c.in-Deadlock.is c.put_within-in-Deadlock.ensures

pub returns-in-LeftSet : goal.returns-in-LeftSet
unfolding shown_line
returns-in-LeftSet c = rw c.in-LeftSet.is c.put_within-in-LeftSet.ensures
