-- The rows are trimmed and closed in a room that is long enough. Assumes nothing.
use Prim.Native.Nat.{◌≤◌}
use lib.ListN.{length}
use Rattle.relation.specs.Table.{words}
use Rattle.relation.proofs.Rooms.{written}
use Rattle.closing.proofs.Closed.{closed}
use Rattle.closing.proofs.close.Goals as goal

pub returns : goal.returns
returns c =
    let a = c.args in
    let fits : words a.m ≤ length a.room.now = rw c.table_words.ensures at c.if-room-table_words.false in
    written _ a.room.now _ a.m fits
    (closed a.room.now _ _ a.m fits c.trim.ensures c.all_rounds.ensures)
