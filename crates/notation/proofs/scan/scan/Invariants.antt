-- `scan` meets its contract: what it has counted, and what is found from its place on, are what is found in the text. Assumes nothing.
use Prim.Native.Nat.{◌-◌}
use lib.ListN.{length}
use Rattle.notation.proofs.Passes.{Judging}
use Rattle.notation.proofs.scan.scan.Given as goal

abbrev pub invariant-loop-end : goal.invariant-loop-end
invariant-loop-end l = Judging l.text l.at l.state l.sizes.commands l.sizes.threads

abbrev pub decreases-loop-end : goal.decreases-loop-end
decreases-loop-end l = length l.text - l.at
