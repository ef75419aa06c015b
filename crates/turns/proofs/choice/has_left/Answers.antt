-- `has_left` meets its contract: a thread that is not there has no command left. Assumes nothing.
use mathlib.Core.Path.{◌∙◌}
use Prim.Native.Nat.{ℕ}
use lib.Dec.{ltb}
use borrow.Author.Tests.{le-ltb}
use mathlib.Core.Path.{ap}
use Rattle.tables.specs.Limits.{most_threads}
use Rattle.turns.proofs.Turns.{left_within, left_past}
use Rattle.turns.proofs.choice.has_left.Goals as goal

pub returns-then-t-lt-THREADS : goal.returns-then-t-lt-THREADS
unfolding most_threads
returns-then-t-lt-THREADS c = ap (λ (x : ℕ). ltb c.args.n x) c.at.ensures ∙ left_within _ _ _ c.if-t-lt-THREADS.true

pub returns-else-t-lt-THREADS : goal.returns-else-t-lt-THREADS
unfolding most_threads
returns-else-t-lt-THREADS c = le-ltb c.args.t 64 c.if-t-lt-THREADS.false ∙ left_past _ _ _ c.if-t-lt-THREADS.false
