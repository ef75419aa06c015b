-- `blocked_after` meets its contract, by whether anybody was released. Assumes nothing.
use native.Mathlib.Omega.{arith}
use borrow.Author.Tests.{eq-eqb, ne_eqb}
use Rattle.turns.proofs.waiting.blocked_after.Goals as goal

pub returns-then-frees-eq0 : goal.returns-then-frees-eq0
returns-then-frees-eq0 c = rw (eq-eqb c.args.frees 0 (omega (arith, c.if-frees-eq0.true))) c.put.ensures

pub returns : goal.returns
returns c = rw (ne_eqb c.args.frees 0 (λ e. omega (arith, c.if-frees-eq0.false))) c.blocked_set.ensures
