use Rattle.relation.proofs.Selves.{diagonal_more, still_fits}
use Rattle.relation.proofs.table.diagonal.Goals as goal

pub loop-i-preserved : goal.loop-i-preserved
loop-i-preserved c =
    let l = c.loop-i in
    diagonal_more (still_fits c.clear.ensures c.if-not-clear.false) c.loop-i-test.true l.invariant c.relate.ensures
