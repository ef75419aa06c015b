use Rattle.printing.proofs.Placing.{puts_on}
use Rattle.wording.proofs.Along.{along_more, along_end, steps_next, steps_end}
use Rattle.wording.proofs.put_steps.Goals as goal

pub loop-i-preserved : goal.loop-i-preserved
loop-i-preserved c =
    along_more c.loop-i.invariant (steps_next _ c.loop-i.i c.loop-i-test.true) (puts_on c.put_number.ensures (rw (← c.parted_by.ensures) c.put_byte.ensures))

pub returns : goal.returns
returns c = along_end c.loop-i.invariant (steps_end _ c.loop-i.i c.loop-i-test.false)
