-- `fits` meets its contract: its tests are the definition's. Assumes nothing.
use mathlib.Core.Path.{refl}
use Rattle.kernels.specs.Limits.{most_statements}
use Rattle.machine.specs.Step.{workable}
use Rattle.machine.proofs.moves.fits.Goals as goal

pub returns : goal.returns
unfolding workable most_statements
returns c = refl
