-- `put_steps` meets its contract: after i turns the first i threads are put. Assumes nothing.
use lib.ListN.{drop}
use Rattle.wording.specs.Lines.{steps_line}
use Rattle.wording.proofs.Along.{Along}
use Rattle.wording.proofs.put_steps.Given as goal

abbrev pub invariant-loop-i : goal.invariant-loop-i
invariant-loop-i l = Along l.initial.out l.out (steps_line l.schedule) (steps_line (drop l.i l.schedule))
