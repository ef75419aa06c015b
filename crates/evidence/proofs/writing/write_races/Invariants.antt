-- `write_races` meets its contract: the room has both ways of the pairs passed, and beyond them is as it was. Assumes nothing.
use Rattle.tables.specs.Rows.{rows}
use Rattle.relation.specs.Table.{related}
use Rattle.evidence.proofs.Putting.{Racing}
use Rattle.evidence.proofs.writing.write_races.Given as goal

abbrev pub invariant-loop-pair : goal.invariant-loop-pair
invariant-loop-pair l = Racing l.tables.commands.now l.tables.lengths.now (related l.relation (rows l.tables.commands.now)) l.pairs l.initial.room l.room l.at l.pair-index
