use native.Mathlib.Omega.{arith}
use Rattle.printing.proofs.Numerals.{figures_only, figures_step}
use Rattle.printing.proofs.Placing.{puts_on}
use Rattle.printing.proofs.Printer.+put_number.Goals as goal
use Rattle.printing.proofs.Printer.+put_number.Goals.{then-n-ge10, else-n-ge10}

pub returns : goal.returns
returns t c =
    elim c.if-n-ge10.branch [
      | then-n-ge10 w ↦ rw (figures_step c.args.n w.if-n-ge10.true) (puts_on w.put_number.ensures (rw w.self-is at c.put_byte.ensures))
      | else-n-ge10 w ↦ rw (figures_only c.args.n (omega arith)) (rw w.self-is at c.put_byte.ensures)
    ]
