use native.Mathlib.Omega.{arith}
use Rattle.evidence.proofs.Putting.{racing_start, racing_end, racing_fits, half_fits, racing_more}
use Rattle.evidence.proofs.writing.write_races.Goals as goal

pub loop-pair-init : goal.loop-pair-init
loop-pair-init c = racing_start _ _ _ _ _ c.requires

pub write_at-at-requires : goal.write_at-at-requires
write_at-at-requires c = racing_fits _ _ _ _ _ c.loop-pair.invariant c.loop-pair-test.true

pub write_at-at-requires-in-loop-pair : goal.write_at-at-requires-in-loop-pair
write_at-at-requires-in-loop-pair c = half_fits _ _ _ _ _ c.loop-pair.invariant c.loop-pair-test.true c.write_at-at.ensures

pub loop-pair-preserved : goal.loop-pair-preserved
loop-pair-preserved c = racing_more _ _ _ _ _ c.loop-pair.invariant c.loop-pair-test.true c.write_at-at.ensures c.write_at-at-in-loop-pair.ensures

pub returns : goal.returns
returns c = racing_end c.args.tables.commands.now c.args.tables.lengths.now _ c.args.pairs.now c.args.room.now c.loop-pair.invariant (omega arith)
