-- The numbers below i are related to themselves. Assumes nothing.
use Rattle.relation.proofs.Selves.{Diagonal}
use Rattle.relation.proofs.table.diagonal.Given as goal

abbrev pub invariant-loop-i : goal.invariant-loop-i
invariant-loop-i l = Diagonal l.initial.room l.room l.m l.i
