-- `Ready::look` meets its contract: each set is put as its test says. Assumes nothing.
use Rattle.turns.specs.Ready.{looked}
use Rattle.turns.proofs.ready.Ready.look.Goals as goal

pub returns : goal.returns
unfolding looked
returns c = rw (← c.has_left-left.ensures, ← c.at.ensures, ← c.put.ensures, ← c.put-2.ensures)
