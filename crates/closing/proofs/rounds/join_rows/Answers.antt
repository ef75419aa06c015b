use mathlib.Core.Path.{◌∙◌}
use Rattle.closing.proofs.Warshall.{round_more}
use Rattle.closing.proofs.rounds.join_rows.Goals as goal

pub loop-i-preserved : goal.loop-i-preserved
loop-i-preserved c =
    let j = c.join_if.ensures in
    let l = c.loop-i in
    (j.len ∙ l.invariant.0, λ old R. round_more old l.room _ _ _ l.i (l.invariant.1 old R) j)
