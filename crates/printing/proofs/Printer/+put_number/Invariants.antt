-- `put_number` meets its contract, which calls itself: a tenth of the number is put, and then its last figure. The measure is the number. Assumes nothing.
use Rattle.printing.proofs.Printer.+put_number.Given as goal

abbrev pub decreases-put_number : goal.decreases-put_number
decreases-put_number l = l.n
