-- `write_at` meets its contract: the schedule is put into the part of the room that is lent. Assumes nothing.
use native.Mathlib.Omega.{arith}
use Rattle.tables.specs.Rows.{rows}
use Rattle.relation.specs.Table.{related}
use Rattle.evidence.proofs.Putting.{apart_few, wrote_ok, wrote_few, wrote_at}
use Rattle.evidence.proofs.writing.write_at.Goals as goal

pub unwrap-requires : goal.unwrap-requires
unwrap-requires c = wrote_ok c.requires c.write_apart.ensures

pub overflow_add-result : goal.overflow_add-result
overflow_add-result c =
    let a = c.args in
    let W = rw c.unwrap.ensures at c.write_apart.ensures in
    let l = wrote_few c.requires W.wrote (apart_few a.tables.commands.now a.tables.lengths.now (related a.relation.now (rows a.tables.commands.now)) a.c a.d) in
    record { fits = omega (arith, l, c.requires.fits) }

pub returns : goal.returns
returns c =
    let W = rw c.unwrap.ensures at c.write_apart.ensures in
    wrote_at c.requires W.wrote
