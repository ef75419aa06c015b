-- `first_other` meets its contract: every byte that the loop has passed is of the class. Assumes nothing.
use Rattle.std.proofs.Common.{◌≡◌, ℕ, ◌<◌, not, false, get_or}
use Rattle.spelling.specs.Bytes.{of_class}
use Rattle.spelling.proofs.bytes.first_other.Given as goal

abbrev pub invariant-loop-i : goal.invariant-loop-i
invariant-loop-i l = (k : ℕ) → k < l.i → not (of_class l.class (get_or l.bytes k 0)) ≡ false
