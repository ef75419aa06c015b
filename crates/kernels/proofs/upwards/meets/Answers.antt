use mathlib.Core.Path.{refl, sym, ap, ◌∙◌}
use native.Mathlib.Omega.{arith}
use Rattle.kernels.specs.Refusals.{meets_upwards}
use Rattle.kernels.proofs.Finds.{found_at, found_past}
use Rattle.kernels.proofs.Climbing.{up_none, up_met, up_more, up_end}
use Rattle.kernels.proofs.upwards.meets.Goals as goal

pub loop-init : goal.loop-init
loop-init g c p h = let a = c.args in ap (λ n. meets_upwards a.s.now p n a.b) (omega arith)

pub returns-in_default : goal.returns-in_default
returns-in_default g c p h =
    up_none c.args.s.now p _ _ _ _ (c.loop.invariant p h) (omega arith) refl (found_past _ _ c.in_default.ensures)

pub test-requires : goal.test-requires
test-requires g c = c.requires c.in-Some.j (found_at _ _ c.in-Some.ensures).1

pub returns-then-test : goal.returns-then-test
returns-then-test g c p h =
    let (e, l) = found_at _ _ c.in-Some.ensures in
    up_met c.args.s.now p _ _ _ _ (c.loop.invariant p h) (omega arith) e l (sym (h _ _ l c.if-test.ensures))

pub at-list-requires : goal.at-list-requires
at-list-requires g c = (found_at _ _ c.in-Some.ensures).1

pub loop-preserved : goal.loop-preserved
loop-preserved g c p h =
    let s = c.args.s.now in
    let (e, l) = found_at _ _ c.in-Some.ensures in
    up_more s p _ _ _ _ (c.loop.invariant p h) (omega arith) e l (sym (h _ _ l c.if-test.ensures)) _ (ap (λ r. r.list) c.at-list.ensures)
    ∙ ap (λ n. meets_upwards s p n c.at-list.result.list) (omega arith)

pub returns : goal.returns
returns g c p h = up_end c.args.s.now p _ _ _ (c.loop.invariant p h) (omega arith)
