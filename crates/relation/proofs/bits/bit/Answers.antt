-- The word is shifted and its last digit taken, as `bit_at` says. Assumes nothing.
use mathlib.Core.Path.{refl}
use Rattle.relation.specs.Bits.{bit_at, bit_of}
use Rattle.relation.proofs.bits.bit.Goals as goal

pub returns : goal.returns
unfolding bit_at bit_of
returns c = refl
