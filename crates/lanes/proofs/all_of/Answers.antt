-- `all_of` meets its contract: 32 lanes are the whole word, and fewer are those below a bit. Assumes nothing.
use native.Mathlib.Omega.{arith}
use Rattle.lanes.proofs.Answers.{all_some, all_least, all_most}
use Rattle.lanes.proofs.all_of.Goals as goal

pub overflow_sub-result : goal.overflow_sub-result
overflow_sub-result c = all_least _ (omega (arith, c.if-n-lt32.true))

pub returns-then-n-lt32 : goal.returns-then-n-lt32
returns-then-n-lt32 c = all_some _ (omega (arith, c.if-n-lt32.true))

pub returns : goal.returns
returns c = all_most _ (omega (arith, c.if-n-lt32.false))
