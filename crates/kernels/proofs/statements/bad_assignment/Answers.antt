-- `bad_assignment` meets its contract: its tests are the definition's. Assumes nothing.
use mathlib.Core.Path.{refl}
use Rattle.kernels.specs.Limits.{cell_count}
use Rattle.kernels.specs.Refusals.{is_bad_assignment}
use Rattle.kernels.proofs.statements.bad_assignment.Goals as goal

pub returns : goal.returns
unfolding is_bad_assignment cell_count
returns c = refl
