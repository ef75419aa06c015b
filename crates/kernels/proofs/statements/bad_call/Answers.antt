-- `bad_call` meets its contract: its tests are the definition's. Assumes nothing.
use mathlib.Core.Path.{◌∙◌}
use Rattle.kernels.specs.Rows.{statements}
use Rattle.kernels.specs.Refusals.{has_body, is_bad_call}
use Rattle.kernels.proofs.Finds.{is_found}
use Rattle.kernels.proofs.statements.bad_call.Goals as goal

pub returns : goal.returns
unfolding is_bad_call
returns c =
    let a = c.args in
    simp (c.is_missing.ensures, c.is_some.ensures ∙ is_found (has_body a.s.now a.x) (statements a.s.now) c.owner_of.ensures)
