-- `write` meets its contract: what it has written, and what is found from its place on, are the text's two tables. Assumes nothing.
use Prim.Native.Nat.{◌-◌}
use lib.ListN.{length}
use Rattle.notation.proofs.Passes.{Writing}
use Rattle.notation.proofs.scan.write.Given as goal

abbrev pub invariant-loop-token : goal.invariant-loop-token
invariant-loop-token l =
    Writing l.text l.initial.commands l.initial.lengths l.commands l.lengths l.at l.state l.numbers l.threads l.length

abbrev pub decreases-loop-token : goal.decreases-loop-token
decreases-loop-token l = length l.text - l.at
