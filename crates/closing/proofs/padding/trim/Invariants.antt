-- The rows below i are trimmed. Assumes nothing.
use Rattle.relation.specs.Table.{width}
use Rattle.closing.specs.Needs.{RowsAre, trimmed}
use Rattle.closing.proofs.padding.trim.Given as goal

abbrev pub invariant-loop-i : goal.invariant-loop-i
invariant-loop-i l = RowsAre l.initial.room l.room (width l.m) l.i (trimmed l.initial.room (width l.m) l.m)
