-- The table holds the chains through numbers below k. Assumes nothing.
use Rattle.relation.specs.Bits.{bit_at}
use Rattle.relation.specs.Chains.{rounds}
use Rattle.relation.specs.Table.{width}
use Rattle.closing.specs.Needs.{RowsAre}
use Rattle.closing.proofs.rounds.all_rounds.Given as goal

abbrev pub invariant-loop-k : goal.invariant-loop-k
invariant-loop-k l = RowsAre l.initial.room l.room (width l.m) l.m (rounds (bit_at l.initial.room (width l.m)) l.k)
