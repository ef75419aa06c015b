use borrow.Author.Rules.{rules}
use native.Mathlib.Omega.{arith}
use Rattle.tables.specs.Limits.{most_threads}
use Rattle.steps.proofs.Stepping.{begins_none, begins_more, begins_all}
use Rattle.steps.proofs.firsts.first_rows.Goals as goal

pub loop-t-init : goal.loop-t-init
unfolding most_threads
loop-t-init c = (search rules, begins_none _)

pub overflow_add-sum : goal.overflow_add-sum
unfolding most_threads
overflow_add-sum c = omega (arith, c.loop-t.invariant.1.sum_small)

pub loop-t-preserved : goal.loop-t-preserved
unfolding most_threads
loop-t-preserved c = (search rules, begins_more _ c.loop-t.invariant.1 (search rules) (search rules) c.at.result c.at.ensures (omega arith))

pub returns : goal.returns
unfolding most_threads
returns c = begins_all _ c.loop-t.invariant.1 c.loop-t-test.false
