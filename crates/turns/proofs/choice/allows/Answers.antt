-- `allows` meets its contract, by its tests. Assumes nothing.
use Rattle.turns.proofs.choice.allows.Goals as goal

pub returns : goal.returns
returns c = rw c.has_left.ensures
