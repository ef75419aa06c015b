-- `highest` meets its contract: by the zeros above the highest lane. Assumes nothing.
use native.Mathlib.Omega.{arith}
use Rattle.lanes.proofs.Answers.{highest_none, highest_leading}
use Rattle.lanes.proofs.highest.Goals as goal

pub returns-then-mask-eq0 : goal.returns-then-mask-eq0
returns-then-mask-eq0 c = highest_none 32 _ c.if-mask-eq0.true

pub returns : goal.returns
returns c = highest_leading _ c.if-mask-eq0.false (omega arith)
