-- `let_go` meets its contract, by its test. Assumes nothing.
use borrow.Author.Tests.{eq-eqb, ne_eqb}
use Rattle.turns.proofs.waiting.let_go.Goals as goal

pub returns-then-waits-w : goal.returns-then-waits-w
returns-then-waits-w c = simp (eq-eqb _ _ c.if-waits-w.true)

pub returns-else-waits-w : goal.returns-else-waits-w
returns-else-waits-w c = simp (ne_eqb _ _ c.if-waits-w.false)
