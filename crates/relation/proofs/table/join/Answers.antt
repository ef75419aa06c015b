-- A place that is there has its rows joined, and for any other nothing is. Assumes nothing.
use mathlib.Core.Path.{sym, ◌∙◌}
use lib.ListN.{length}
use Rattle.relation.proofs.Rooms.{place, row_in}
use Rattle.relation.proofs.table.join.Goals as goal

pub join_row-requires : goal.join_row-requires
join_row-requires c =
    let a = c.args in
    let n = length a.room.now in
    let I = place n a.m a.i a.k (sym c.has_place.ensures ∙ c.if-has_place.true) in
    rw c.row_words.ensures (record { into = row_in n _ a.m a.i I.fits I.from; from = row_in n _ a.m a.k I.fits I.to })
