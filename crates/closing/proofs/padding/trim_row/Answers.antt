-- The word with the padding is cut down to the bits below m. Assumes nothing.
use Rattle.closing.proofs.Trimming.{cut_row}
use Rattle.closing.proofs.padding.trim_row.Goals as goal

pub returns : goal.returns
returns c = let a = c.args in cut_row a.room.now a.m a.i c.requires
