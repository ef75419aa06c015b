-- `bad_while` meets its contract: its tests are the definition's. Assumes nothing.
use Rattle.std.proofs.Common.{rules}
use lib.Dec.{eqb}
use Rattle.kernels.specs.Refusals.{is_bad_while}
use Rattle.kernels.proofs.statements.bad_while.Goals as goal

pub returns : goal.returns
unfolding is_bad_while
returns c = simp (c.bad_body.ensures, c.meets.ensures (eqb c.args.i) (λ j r l e. search rules))
