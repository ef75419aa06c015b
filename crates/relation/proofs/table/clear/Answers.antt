-- The words of the table are zeros, and the others stay. Assumes nothing.
use Rattle.std.proofs.Common.{◌≡◌, ℕ, ◌≤◌, length, replicate, ap, ◌∙◌, arith}
use Rattle.std.proofs.lemmas.List.{length-take-le}
use Rattle.relation.specs.Table.{words}
use Rattle.relation.proofs.Rooms.{cleared, written}
use Rattle.relation.proofs.table.clear.Goals as goal

pub returns : goal.returns
returns c =
    let a = c.args in
    let e : c.table_words-n.result ≡ words a.m = c.table_words-n.ensures in
    let fits : words a.m ≤ length a.room.now = omega (arith, c.if-room-n.false) in
    let z : c.fill.new.self ≡ replicate (words a.m) 0 =
    c.fill.ensures.after (λ y h. h) ∙ ap (λ (n : ℕ). replicate n 0) (length-take-le _ a.room.now c.if-room-n.false ∙ e) in
    written _ a.room.now _ a.m fits (rw (z, e) (cleared a.room.now a.m fits))
