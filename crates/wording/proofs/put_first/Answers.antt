-- `put_first` meets its contract. Assumes nothing.
use mathlib.Core.List.{append_assoc}
use Rattle.printing.proofs.Placing.{puts_on}
use Rattle.wording.specs.Lines.{shown_line}
use Rattle.wording.proofs.put_first.Goals as goal

pub returns : goal.returns
unfolding shown_line
returns c =
    rw append_assoc (puts_on c.put_within.ensures c.put_within-2.ensures)
