-- `bad_body` meets its contract: its tests are the definition's. Assumes nothing.
use Rattle.kernels.specs.Refusals.{is_bad_body}
use Rattle.kernels.proofs.statements.bad_body.Goals as goal

pub returns : goal.returns
unfolding is_bad_body
returns c = simp (c.is_missing.ensures, c.used_elsewhere.ensures)
