use Rattle.std.proofs.Common.{◌≡◌, sym, ◌∙◌, arith}
use Rattle.happens.proofs.Leading.{last_here, last_on, last_none}
use Rattle.happens.proofs.leaders.last_met.Goals as goal

pub returns-then-meets_row : goal.returns-then-meets_row
returns-then-meets_row c = let l = c.loop-j in sym (l.invariant ∙ last_here _ l.j (omega arith) (sym c.meets_row.ensures ∙ c.if-meets_row.true))

pub loop-j-preserved : goal.loop-j-preserved
loop-j-preserved c = let l = c.loop-j in l.invariant ∙ last_on _ l.j (omega arith) (sym c.meets_row.ensures ∙ c.if-meets_row.false)

pub returns : goal.returns
returns c = let e : c.loop-j.j ≡ 0 = omega arith in sym (rw e at c.loop-j.invariant ∙ last_none _)
