-- `play` meets its contract: what is left to go on with, from the point that the loop has come to, is what all entries come to. Assumes nothing.
use mathlib.Core.Path.{◌≡◌}
use Prim.Native.Nat.{◌≤◌}
use lib.ListN.{length}
use Rattle.tables.specs.Limits.{most_rows}
use Rattle.verdicts.specs.declared.Verdict.TheVariants as verdict
use Rattle.steps.specs.Going.{standing}
use Rattle.steps.proofs.Entries.{At}
use Rattle.steps.proofs.going.play.Given as goal

abbrev pub invariant-loop-entry : goal.invariant-loop-entry
invariant-loop-entry l =
    (l.steps ≤ 4294967295) × (length l.generations ≡ most_rows) × At l.commands l.lengths l.entries (standing l.initial.state l.initial.generations l.initial.steps verdict.Clean) l.state l.generations l.steps l.entry-index
