use native.Mathlib.Omega.{arith}
use Rattle.relation.proofs.Rows.{half_more, half_all}
use Rattle.relation.proofs.bits.join_row.Goals as goal

pub loop-v-preserved : goal.loop-v-preserved
loop-v-preserved c =
    let l = c.loop-v in
    let a = c.args in
    half_more a.room.now l.room a.w a.i a.k l.v l.changed (omega arith) c.requires.into l.invariant

pub returns : goal.returns
returns c =
    let l = c.loop-v in
    let a = c.args in
    half_all a.room.now l.room a.w a.i a.k l.v l.changed (omega arith) (omega arith) l.invariant
