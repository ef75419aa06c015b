-- `put_two` meets its contract. Assumes nothing.
use Rattle.printing.proofs.Placing.{puts_on, puts_as}
use Rattle.report.proofs.Lines.{two_halves}
use Rattle.report.proofs.put_two.Goals as goal

pub returns : goal.returns
returns c = puts_as (two_halves _ _) (puts_on c.put_within.ensures c.put_within-2.ensures)
