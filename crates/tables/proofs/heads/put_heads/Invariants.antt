-- `put_heads` meets its contract: the threads before the one that the loop has come to have their heads, and after them what is left of the room. Assumes nothing.
use Rattle.tables.proofs.Filling.{Begun}
use Rattle.tables.proofs.heads.put_heads.Given as goal

abbrev pub invariant-loop-length : goal.invariant-loop-length
invariant-loop-length l = Begun l.lengths l.length-index l.head l.initial.heads l.heads
