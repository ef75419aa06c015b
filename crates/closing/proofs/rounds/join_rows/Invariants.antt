-- The round has come to row i. Assumes nothing.
use mathlib.Core.Path.{◌≡◌}
use mathlib.Core.List.{List}
use Prim.Native.Nat.{ℕ}
use lib.ListN.{length}
use Rattle.relation.specs.Table.{width}
use Rattle.closing.specs.Needs.{RowsAre, joined_if}
use Rattle.closing.proofs.rounds.join_rows.Given as goal

abbrev pub invariant-loop-i : goal.invariant-loop-i
invariant-loop-i l =
    (length l.room ≡ length l.initial.room)
    × ((old : List ℕ) → RowsAre old l.initial.room (width l.m) l.first (joined_if old (width l.m) l.k) → RowsAre old l.room (width l.m) l.i (joined_if old (width l.m) l.k))
