-- `put_verdict` meets its contract. Assumes nothing.
use Rattle.printing.proofs.Placing.{puts_on}
use Rattle.report.specs.Report.{verdict_line}
use Rattle.report.proofs.put_verdict.Goals as goal

pub returns : goal.returns
unfolding verdict_line
returns c = puts_on c.put_within.ensures c.put_two.ensures
