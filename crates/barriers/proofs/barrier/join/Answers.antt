-- `join` meets its contract, by its test. Assumes nothing.
use borrow.Author.Tests.{eq-eqb, ne_eqb}
use Rattle.barriers.proofs.barrier.join.Goals as goal

pub returns-then-so_far-count : goal.returns-then-so_far-count
returns-then-so_far-count c = simp (← c.more-so_far.ensures, ← c.more.ensures, eq-eqb _ _ c.if-so_far-count.true)

pub returns : goal.returns
returns c = simp (← c.more-so_far.ensures, ne_eqb _ _ c.if-so_far-count.false)
