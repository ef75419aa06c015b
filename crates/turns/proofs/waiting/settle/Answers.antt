-- `settle` meets its contract, by whether anybody is released. Assumes nothing.
use Rattle.turns.proofs.Turns.{settles_some, settles_none}
use Rattle.turns.proofs.waiting.settle.Goals as goal

pub returns-then-frees-ne0 : goal.returns-then-frees-ne0
returns-then-frees-ne0 c =
    let a = c.args in
    settles_some a.t a.wait a.frees a.waits.now c.put.ensures c.release.ensures

pub returns-else-frees-ne0 : goal.returns-else-frees-ne0
returns-else-frees-ne0 c =
    let a = c.args in
    settles_none a.t a.wait a.frees a.waits.now c.put.ensures c.if-frees-ne0.false
