-- `put_races` meets its contract: after k turns both ways of the first k pairs are put. Assumes nothing.
use lib.ListN.{drop}
use Rattle.tables.specs.Rows.{rows}
use Rattle.relation.specs.Table.{related}
use Rattle.exhibits.specs.Exhibits.{race_exhibits}
use Rattle.wording.proofs.Along.{Along}
use Rattle.exhibits.proofs.exhibit.Exhibitor.put_races.Given as goal

abbrev pub invariant-loop-pair : goal.invariant-loop-pair
invariant-loop-pair l =
    let t = l.self in
    let ρ = related t.relation.now (rows t.tables.commands.now) in
    Along l.initial.out l.out (race_exhibits t.tables.commands.now t.tables.lengths.now ρ l.pair-items) (race_exhibits t.tables.commands.now t.tables.lengths.now ρ (drop l.pair-index l.pair-items))
