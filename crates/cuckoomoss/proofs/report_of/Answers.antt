-- `report_of` meets its contract: its room begins as zeros. Assumes nothing.
use Rattle.desk.specs.Promise.{least_room}
use Rattle.cuckoomoss.proofs.Printing.{report_held}
use Rattle.cuckoomoss.proofs.report_of.Goals as goal

pub returns : goal.returns
unfolding least_room
returns c = report_held c.review_text.ensures c.before_zero-len.ensures
