use mathlib.Core.Path.{ap}
use Prim.Native.Nat.{ℕ, ◌+◌}
use borrow.Author.Rules.{rules}
use native.Mathlib.Omega.{arith}
use Rattle.tables.specs.Limits.{most_threads}
use Rattle.turns.proofs.Kept.{looked_none, looked_more, looked_all}
use Rattle.steps.proofs.writing.all_ready.Goals as goal

pub loop-t-init : goal.loop-t-init
loop-t-init c = looked_none _ _ _ c.none-ready.ensures

pub overflow_add-firsts : goal.overflow_add-firsts
overflow_add-firsts c =
    omega (arith, c.requires.small c.loop-t.t)

pub loop-t-preserved : goal.loop-t-preserved
unfolding most_threads
loop-t-preserved c =
    let n = c.at-n.result in
    rw c.look-ready.ensures
    (looked_more _ _ c.args.next.now c.loop-t.ready c.loop-t.t n _ c.loop-t.invariant (search rules) c.at-n.ensures
    (ap (λ (x : ℕ). x + n) (c.requires.each c.loop-t.t (search rules))))

pub returns : goal.returns
unfolding most_threads
returns c = looked_all _ _ c.loop-t.invariant c.loop-t-test.false
