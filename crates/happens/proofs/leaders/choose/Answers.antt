use Rattle.std.proofs.Common.{arith}
use borrow.Author.Tests.{ne_eqb}
use Rattle.tables.specs.Limits.{most_rows, barriers}
use Rattle.happens.proofs.Leading.{seated_more, seated_on}
use Rattle.happens.proofs.leaders.choose.Goals as goal
use Rattle.happens.proofs.leaders.choose.Goals.{then-offered-c-eq-SYNC, else-offered-c-eq-SYNC}

pub loop-c-preserved : goal.loop-c-preserved
unfolding most_rows barriers
loop-c-preserved c =
    let l = c.loop-c in
    let a = c.args.offered.now in
    elim c.if-offered-c-eq-SYNC.branch [
      | then-offered-c-eq-SYNC w ↦ rw (w.leaders-is, w.seat.ensures.0) (seated_more a.commands.now a.generations.now l.leaders l.c (omega arith) (omega arith) l.invariant)
      | else-offered-c-eq-SYNC w ↦ rw w.leaders-is (seated_on a.commands.now a.generations.now l.leaders l.c (ne_eqb _ _ w.if-offered-c-eq-SYNC.false) l.invariant)
    ]
