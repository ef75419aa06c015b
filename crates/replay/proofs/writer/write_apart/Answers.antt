-- `write_apart` meets its contract: it is the writer that has d go first and what c does not reach. Assumes nothing.
use mathlib.Core.Path.{refl}
use native.Mathlib.Omega.{arith}
use Rattle.tables.specs.Limits.{most_rows}
use Rattle.replay.proofs.Wrote.{wrote_apart}
use Rattle.replay.proofs.writer.write_apart.Goals as goal

pub put_apart-requires : goal.put_apart-requires
unfolding most_rows
put_apart-requires c = omega arith

pub returns : goal.returns
unfolding most_rows
returns c =
    wrote_apart _ _ _ _ c.few-m.ensures c.few.ensures refl c.put_apart.ensures c.write_first.ensures
