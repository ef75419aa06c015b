use native.Mathlib.Omega.{arith}
use borrow.Author.Rules.{rules}
use Rattle.turns.proofs.Fronts.{front_more, front_end}
use Rattle.turns.proofs.waiting.release.Goals as goal

pub loop-wait-preserved : goal.loop-wait-preserved
loop-wait-preserved c = front_more _ _ _ _ _ c.loop-wait.invariant (search rules) c.let_go.ensures

pub returns : goal.returns
returns c = let l = c.loop-wait in front_end _ c.args.waits.now l.waits l.wait-index l.invariant (omega arith)
