-- The first v words are joined. Assumes nothing.
use Rattle.relation.proofs.Rows.{Half}
use Rattle.relation.proofs.bits.join_row.Given as goal

abbrev pub invariant-loop-v : goal.invariant-loop-v
invariant-loop-v l = Half l.initial.room l.room l.w l.i l.k l.v l.changed
