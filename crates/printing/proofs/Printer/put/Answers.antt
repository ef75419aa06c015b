use Rattle.printing.proofs.Placing.{front_next}
use Rattle.printing.proofs.Printer.put.Goals as goal

pub loop-byte-preserved : goal.loop-byte-preserved
loop-byte-preserved c = front_next _ _ c.loop-byte.invariant c.loop-byte-test.true c.put_byte.ensures
