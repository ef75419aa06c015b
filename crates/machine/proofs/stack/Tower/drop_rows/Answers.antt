use mathlib.Core.Path.{◌≡◌, ap, ◌∙◌}
use Prim.Native.Nat.{◌+◌, ◌-◌}
use native.Mathlib.Omega.{arith}
use Rattle.machine.specs.declared.stack.Tower.{Tower}
use Rattle.machine.specs.Entries.{stack_in}
use Rattle.machine.proofs.Held.{drop_row, drop_token, drop_none}
use Rattle.machine.proofs.Towers.{lowered}
use Rattle.machine.proofs.stack.Tower.drop_rows.Goals as goal

pub returns-then-self-i-ge-TOKENS : goal.returns-then-self-i-ge-TOKENS
returns-then-self-i-ge-TOKENS c =
    let (e, f) = c.loop-i.invariant in
    let back : c.loop-i.i - 1 + 1 ≡ c.loop-i.i = omega arith in
    lowered (ap (λ (t : Tower). t.room) e) (omega arith) (ap (stack_in _) back ∙ drop_token _ _ _ f c.loop-i-test.true (rw e at c.if-self-i-ge-TOKENS.true))

pub loop-i-preserved : goal.loop-i-preserved
loop-i-preserved c =
    let (e, f) = c.loop-i.invariant in
    (e, drop_row _ _ _ f c.loop-i-test.true (rw e at c.if-self-i-ge-TOKENS.false))

pub returns : goal.returns
returns c =
    let (e, f) = c.loop-i.invariant in
    let none : 0 ≡ c.loop-i.i = omega arith in
    lowered (ap (λ (t : Tower). t.room) e) (omega arith) (ap (stack_in _) none ∙ drop_none _ _ _ f c.loop-i-test.false)
