-- The pairs from e on have been tried. Assumes nothing.
use Prim.Native.Nat.{◌≤◌}
use Rattle.sweeps.specs.Pairs.{PairBetween, PairIn}
use Rattle.sweeps.specs.Needs.{Pass}
use Rattle.sweeps.proofs.sweeps.sweep.Given as goal

abbrev pub invariant-loop-e : goal.invariant-loop-e
invariant-loop-e l = (l.first ≤ l.e) × Pass (PairIn l.pairs l.m) l.m (PairBetween l.pairs l.e l.end) l.initial.room l.room l.changed
