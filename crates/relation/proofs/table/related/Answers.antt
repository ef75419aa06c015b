-- A place that is there is read, and any other is not set. Assumes nothing.
use mathlib.Core.Path.{sym, ◌∙◌}
use lib.ListN.{length}
use Rattle.relation.specs.Table.{related}
use Rattle.relation.proofs.Rooms.{bit_in}
use Rattle.relation.proofs.table.related.Goals as goal

pub bit-requires : goal.bit-requires
bit-requires c =
    let a = c.args in
    rw c.row_words.ensures (bit_in (length a.room.now) a.m a.i a.j (sym c.has_place.ensures ∙ c.if-has_place.true))

pub returns-then-has_place : goal.returns-then-has_place
unfolding related
returns-then-has_place c =
    let a = c.args in
    let h = c.has_place.ensures in
    c.bit.ensures
    ∙ rw (c.row_words.ensures, sym h ∙ c.if-has_place.true)

pub returns : goal.returns
unfolding related
returns c = rw (sym c.has_place.ensures ∙ c.if-has_place.false)
