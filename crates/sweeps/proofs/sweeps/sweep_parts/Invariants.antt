-- The pairs before `first` have been tried. Assumes nothing.
use Prim.Native.Nat.{◌≤◌}
use Rattle.sweeps.specs.Pairs.{pair_count, PairBetween, PairIn}
use Rattle.sweeps.specs.Needs.{Pass}
use Rattle.sweeps.proofs.sweeps.sweep_parts.Given as goal

abbrev pub invariant-loop-part : goal.invariant-loop-part
invariant-loop-part l = (l.first ≤ pair_count l.pairs) × Pass (PairIn l.pairs l.m) l.m (PairBetween l.pairs 0 l.first) l.initial.room l.room l.changed
