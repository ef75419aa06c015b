-- `put_apart` meets its contract: what stands before x is said of the commands before x. Assumes nothing.
use Rattle.relation.specs.Table.{related}
use Rattle.replay.proofs.Picking.{Said}
use Rattle.replay.proofs.writer.put_apart.Given as goal

abbrev pub invariant-loop-x : goal.invariant-loop-x
invariant-loop-x l = Said (related l.relation l.m) l.c l.d l.initial.early l.early l.x
