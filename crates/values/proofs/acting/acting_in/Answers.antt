use Rattle.std.proofs.Common.{◌≡◌, ap, ◌∙◌, arith}
use Rattle.values.specs.Expressions.{expression, acting}
use Rattle.values.proofs.Lanewise.{acts_as, acting_none, acting_hit, acting_miss}
use Rattle.values.proofs.acting.acting_in.Goals as goal
use Rattle.values.proofs.acting.acting_in.Goals.{then-mask-t, else-mask-t}

pub loop-t-init : goal.loop-t-init
loop-t-init c = acting_none _ _ _

pub loop-t-preserved : goal.loop-t-preserved
loop-t-preserved c =
    let acts = acts_as _ _ _ _ _ (c.fill_rows.ensures c.loop-t.t c.loop-t-test.true) in
    elim c.if-mask-t.branch [
      | then-mask-t w ↦ w.found-is ∙ acting_hit _ _ _ _ _ c.loop-t.invariant _ acts (omega arith) w.if-mask-t.true
      | else-mask-t w ↦ w.found-is ∙ acting_miss _ _ _ _ _ c.loop-t.invariant _ acts w.if-mask-t.false
    ]

pub returns : goal.returns
returns c =
    let a = c.args in
    let e : c.loop-t.t ≡ a.count = omega arith in
    c.loop-t.invariant ∙ ap (acting a.mask (expression a.expressions.now a.root) a.cells.now) e
