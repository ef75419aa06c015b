-- `put_sheet` meets its contract: the numbers of the first i pairs are in the room. Assumes nothing.
use mathlib.Core.Path.{◌≡◌}
use lib.ListN.{length}
use Rattle.probe.proofs.Putting.{Putting}
use Rattle.probe.proofs.answer.put_sheet.Given as goal

abbrev pub invariant-loop-i : goal.invariant-loop-i
invariant-loop-i l = (length l.answer ≡ length l.initial.answer) × Putting l.fn.sheet.pairs l.initial.answer l.answer l.i
