-- Two sweeps that change something make words grow; one that changes nothing has taken every edge. Assumes nothing.
use Rattle.sweeps.specs.Pairs.{PairIn}
use Rattle.sweeps.specs.Needs.{Joined}
use Rattle.sweeps.proofs.Passes.{left_to_grow}
use Rattle.sweeps.proofs.sweeps.settle.Given as goal

abbrev pub invariant-loop-m : goal.invariant-loop-m
invariant-loop-m l = Joined (PairIn l.pairs l.m) l.m l.initial.room l.room

abbrev pub decreases-loop-m : goal.decreases-loop-m
decreases-loop-m l = left_to_grow l.room
