-- `put_generation` meets its contract. Assumes nothing.
use Rattle.printing.proofs.Placing.{puts_on, puts_as}
use Rattle.wording.proofs.Along.{generation_line}
use Rattle.wording.proofs.put_generation.Goals as goal

pub returns : goal.returns
returns c = puts_as (generation_line _ _ _) (puts_on (puts_on c.put_within.ensures c.put_within-2.ensures) c.put_within-3.ensures)
