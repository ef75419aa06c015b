-- `first_row` meets its contract: the sum is where the thread begins that the loop has come to. Assumes nothing.
use mathlib.Core.Path.{◌≡◌}
use Prim.Native.Nat.{◌*◌, ◌^◌, ◌≤◌}
use Rattle.tables.specs.Rows.{first_row}
use Rattle.tables.proofs.threads.first_row.Given as goal

abbrev pub invariant-loop-length : goal.invariant-loop-length
invariant-loop-length l = (l.sum ≡ first_row l.lengths l.length-index) × (l.sum ≤ 2 ^ 32 * l.length-index)
