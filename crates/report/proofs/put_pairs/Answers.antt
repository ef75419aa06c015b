use native.Mathlib.Omega.{arith}
use lib.Seq.{take_all}
use Rattle.sheet.specs.Sheet.{most_kept, pair}
use Rattle.printing.proofs.Placing.{puts_none, puts_on}
use Rattle.report.specs.Report.{pair_lines}
use Rattle.report.proofs.Lines.{pairs_next}
use Rattle.report.proofs.put_pairs.Goals as goal

pub shared_ref_as_front-pair-items : goal.shared_ref_as_front-pair-items
unfolding most_kept
shared_ref_as_front-pair-items c = omega (arith, c.kept.ensures)

pub loop-pair-init : goal.loop-pair-init
unfolding pair_lines
loop-pair-init c = puts_none _

pub loop-pair-preserved : goal.loop-pair-preserved
loop-pair-preserved c =
    rw (pairs_next _ c.loop-pair.pair-index (pair 0 0) c.loop-pair-test.true) (puts_on c.loop-pair.invariant c.put_two.ensures)

pub returns : goal.returns
returns c = rw (← c.kept.ensures, ← take_all c.loop-pair.pair-index _ c.loop-pair-test.false) c.loop-pair.invariant
