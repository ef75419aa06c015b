-- `write_schedule` meets its contract: it is the writer that has no command go first. Assumes nothing.
use Rattle.replay.proofs.Wrote.{wrote_lowest}
use Rattle.replay.proofs.writer.write_schedule.Goals as goal

pub returns : goal.returns
returns c = wrote_lowest _ c.write_first.ensures
