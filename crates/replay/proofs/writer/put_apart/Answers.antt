use native.Mathlib.Omega.{arith}
use Rattle.tables.specs.Limits.{most_rows}
use Rattle.replay.proofs.Picking.{said_by, said_more}
use Rattle.replay.proofs.writer.put_apart.Goals as goal

pub overflow_cast-x : goal.overflow_cast-x
unfolding most_rows
overflow_cast-x c = record { fits = omega (arith, c.requires, c.loop-x.invariant.long, c.loop-x-test.true) }

pub loop-x-preserved : goal.loop-x-preserved
loop-x-preserved c = said_more _ _ _ _ c.loop-x.invariant c.loop-x-test.true _ (said_by _ _ _ _ c.related.ensures)
