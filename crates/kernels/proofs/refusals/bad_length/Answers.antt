-- `bad_length` meets its contract: its tests are the definition's. Assumes nothing.
use mathlib.Core.Path.{refl}
use Rattle.kernels.specs.Refusals.{is_bad_length}
use Rattle.kernels.proofs.refusals.bad_length.Goals as goal

pub returns : goal.returns
unfolding is_bad_length
returns c = refl
