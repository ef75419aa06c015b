-- `put_pairs` meets its contract: after i turns the first i pairs are put. Assumes nothing.
use lib.ListN.{take}
use Rattle.printing.specs.Putting.{Prints}
use Rattle.report.specs.Report.{pair_lines}
use Rattle.report.proofs.put_pairs.Given as goal

abbrev pub invariant-loop-pair : goal.invariant-loop-pair
invariant-loop-pair l = Prints l.initial.out l.out (pair_lines (take l.pair-index l.pair-items))
