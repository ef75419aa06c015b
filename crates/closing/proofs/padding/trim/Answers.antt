use mathlib.Core.Path.{sym}
use lib.ListN.{length}
use Rattle.relation.specs.Table.{width}
use Rattle.relation.proofs.Rooms.{last_word, row_in}
use Rattle.closing.proofs.Trimming.{no_padding, trim_more}
use Rattle.closing.proofs.padding.trim.Goals as goal

pub returns-then-m-eq0 : goal.returns-then-m-eq0
returns-then-m-eq0 c = let a = c.args in no_padding a.room.now a.m c.if-m-eq0.true

pub trim_row-requires : goal.trim_row-requires
trim_row-requires c =
    let l = c.loop-i in
    rw (l.invariant.len, sym (last_word c.args.m c.if-m-eq0.false))
    (row_in (length c.args.room.now) (width c.args.m) c.args.m l.i c.requires c.loop-i-test.true)

pub loop-i-preserved : goal.loop-i-preserved
loop-i-preserved c =
    let a = c.args in
    trim_more a.room.now c.loop-i.room _ a.m c.loop-i.i c.if-m-eq0.false c.loop-i.invariant c.trim_row.ensures
