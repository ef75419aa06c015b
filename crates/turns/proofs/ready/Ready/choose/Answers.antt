-- `Ready::choose` meets its contract: the one set's lowest, or else the other's. Assumes nothing.
use Rattle.turns.proofs.Turns.{found_or}
use Rattle.turns.proofs.ready.Ready.choose.Goals as goal

pub returns : goal.returns
returns c = rw (c.or.ensures, c.lowest_but-first.ensures, c.lowest_but.ensures) (found_or _ _ _)
