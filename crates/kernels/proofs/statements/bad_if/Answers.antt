-- `bad_if` meets its contract: its tests are the definition's. Assumes nothing.
use Rattle.kernels.specs.Refusals.{is_bad_if}
use Rattle.kernels.proofs.statements.bad_if.Goals as goal

pub returns : goal.returns
unfolding is_bad_if
returns c = simp (c.bad_while.ensures, c.bad_body.ensures)
