use Rattle.relation.proofs.Rooms.{wide}
use Rattle.closing.proofs.Warshall.{round_first, round_next}
use Rattle.closing.proofs.rounds.all_rounds.Goals as goal

pub loop-k-init : goal.loop-k-init
loop-k-init c = round_first _ _ _

pub loop-k-preserved : goal.loop-k-preserved
loop-k-preserved c =
    let l = c.loop-k in
    let a = c.args in
    round_next a.room.now l.room _ _ a.m l.k c.loop-k-test.true (wide a.m) l.invariant c.round.ensures
