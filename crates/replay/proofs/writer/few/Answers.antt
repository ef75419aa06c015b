-- `few` meets its contract. Assumes nothing.
use borrow.Author.Rules.{rules}
use Rattle.tables.specs.Limits.{most_rows}
use Rattle.replay.proofs.writer.few.Goals as goal

pub returns : goal.returns
unfolding most_rows
returns c = search rules
