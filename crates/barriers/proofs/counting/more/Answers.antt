-- `more` meets its contract: below its largest the sum fits. Assumes nothing.
use native.Mathlib.Omega.{arith}
use Rattle.std.proofs.lemmas.Bool.Decides.{nat_tests}
use Rattle.barriers.specs.Counting.{counted}
use Rattle.barriers.proofs.counting.more.Goals as goal

pub returns : goal.returns
unfolding counted
returns c = grind (arith, nat_tests)
