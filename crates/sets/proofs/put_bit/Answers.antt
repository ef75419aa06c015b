-- `put_bit` meets its contract, by the test. Assumes nothing.
use native.Mathlib.Omega.{arith}
use lib.Pow.{pow-lt}
use Rattle.relation.proofs.Words.{one_shl}
use Rattle.sets.specs.Words.{put_bit}
use Rattle.sets.proofs.Words.{except_is}
use Rattle.sets.proofs.put_bit.Goals as goal

pub returns-then-on : goal.returns-then-on
unfolding put_bit
returns-then-on c = rw (one_shl c.args.k 64 c.requires, c.if-on.true)

pub returns-else-on : goal.returns-else-on
unfolding put_bit
returns-else-on c = rw (one_shl c.args.k 64 c.requires, c.if-on.false) (except_is _ _ (omega arith) (omega (arith, pow-lt {j = 64} c.requires)))
