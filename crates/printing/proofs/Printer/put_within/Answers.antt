-- `put_within` meets its contract: three puts, one after another. Assumes nothing.
use Rattle.printing.proofs.Placing.{puts_on}
use Rattle.printing.proofs.Printer.put_within.Goals as goal

pub returns : goal.returns
returns c = puts_on (puts_on c.put.ensures c.put_number.ensures) c.put-2.ensures
