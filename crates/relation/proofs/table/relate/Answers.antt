-- A place that is there is set, and for any other nothing is. Assumes nothing.
use mathlib.Core.Path.{sym, ◌∙◌}
use lib.ListN.{length}
use Rattle.relation.proofs.Rooms.{bit_in}
use Rattle.relation.proofs.table.relate.Goals as goal

pub set_bit-requires : goal.set_bit-requires
set_bit-requires c =
    let a = c.args in
    rw c.row_words.ensures (bit_in (length a.room.now) a.m a.i a.j (sym c.has_place.ensures ∙ c.if-has_place.true))
