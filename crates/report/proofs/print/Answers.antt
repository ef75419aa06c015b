-- `print` meets its contract. Assumes nothing.
use Rattle.printing.proofs.Placing.{puts_on}
use Rattle.report.specs.Report.{report, total_line}
use Rattle.report.proofs.print.Goals as goal

pub returns : goal.returns
unfolding report total_line
returns c = puts_on (puts_on c.put_verdict.ensures c.put_within.ensures) c.put_pairs.ensures
