-- A short room is refused by the first write; else every edge is taken. Assumes nothing.
use Rattle.sweeps.proofs.Sweeping.{reached}
use Rattle.sweeps.proofs.sweeps.put_reach.Goals as goal

pub returns : goal.returns
returns c =
    reached c.diagonal.ensures c.if-not-diagonal.false c.settle.ensures
