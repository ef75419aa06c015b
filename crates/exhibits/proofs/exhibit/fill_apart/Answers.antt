-- `fill_apart` meets its contract: tables that pass are not refused in a room that has place. Assumes nothing.
use Rattle.replay.proofs.Wrote.{written_ok}
use Rattle.exhibits.proofs.exhibit.fill_apart.Goals as goal

pub unwrap-requires : goal.unwrap-requires
unwrap-requires c = written_ok _ c.write_apart.ensures c.requires.0 c.requires.1

pub returns : goal.returns
returns c = let W = rw c.unwrap.ensures at c.write_apart.ensures in W.wrote
