-- `put` meets its contract, by its test. Assumes nothing.
use mathlib.Core.Path.{sym}
use lib.Seq.{set_out}
use Rattle.turns.proofs.waiting.put.Goals as goal

pub returns-else-i-numbers : goal.returns-else-i-numbers
returns-else-i-numbers c = sym (set_out _ _ _ c.if-i-numbers.false)
