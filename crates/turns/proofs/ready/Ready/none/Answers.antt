-- `Ready::none` meets its contract: both sets are empty. Assumes nothing.
use Rattle.turns.proofs.ready.Ready.none.Goals as goal

pub returns : goal.returns
returns c = rw (c.none.ensures, c.none-2.ensures)
