-- `drop_rows` meets its contract: what the loop has passed are statements. Assumes nothing.
use mathlib.Core.Path.{◌≡◌}
use Rattle.machine.specs.Entries.{stack_in, from_token}
use Rattle.machine.specs.Needs.{entries}
use Rattle.machine.proofs.stack.Tower.drop_rows.Given as goal

abbrev pub invariant-loop-i : goal.invariant-loop-i
invariant-loop-i l = (l.self ≡ l.initial.self) × (from_token (entries l.initial.self) ≡ from_token (stack_in l.initial.self.room.now l.i))
