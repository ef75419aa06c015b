use native.Mathlib.Omega.{arith}
use Rattle.sheet.specs.Sheet.{most_kept}
use Rattle.printing.proofs.Placing.{puts_on}
use Rattle.wording.proofs.Along.{along_more, along_end}
use Rattle.exhibits.proofs.Races.{races_next, races_end}
use Rattle.exhibits.proofs.exhibit.Exhibitor.put_races.Goals as goal

pub shared_ref_as_front-pair-items : goal.shared_ref_as_front-pair-items
unfolding most_kept
shared_ref_as_front-pair-items c = omega (arith, c.kept.ensures)

pub loop-pair-preserved : goal.loop-pair-preserved
loop-pair-preserved c =
    along_more c.loop-pair.invariant (races_next _ _ _ _ c.loop-pair.pair-index c.loop-pair-test.true) (puts_on c.put_way.ensures c.put_way-in-loop-pair.ensures)

pub returns : goal.returns
returns c =
    rw (← c.kept.ensures) (along_end c.loop-pair.invariant (races_end _ _ _ _ c.loop-pair.pair-index c.loop-pair-test.false))
