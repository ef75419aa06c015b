use mathlib.Core.Path.{sym}
use native.Mathlib.Omega.{arith}
use Rattle.notation.proofs.Passes.{judging_start, judging_passed, judging_short, judging_further, judging_refused, judging_on, judging_row, judging_thread}
use Rattle.notation.proofs.scan.scan.Goals as goal

-- the end of the text
pub returns-then-may_end : goal.returns-then-may_end
returns-then-may_end c =
    judging_passed c.loop-end.invariant (sym c.in-End.ensures) (sym c.if-may_end.ensures)

pub returns-in-End : goal.returns-in-End
returns-in-End c =
    judging_short c.loop-end.invariant (sym c.in-End.ensures) (sym c.if-may_end.ensures)

-- a token
pub returns-in-Refuse : goal.returns-in-Refuse
returns-in-Refuse c =
    judging_refused c.loop-end.invariant (sym c.in-Token.ensures) (sym c.in-Refuse.ensures)

pub loop-end-smaller-in-On : goal.loop-end-smaller-in-On
loop-end-smaller-in-On c =
    omega (arith, judging_further c.loop-end.invariant (sym c.in-Token.ensures))

pub loop-end-preserved-in-On : goal.loop-end-preserved-in-On
loop-end-preserved-in-On c =
    judging_on c.loop-end.invariant (sym c.in-Token.ensures) (sym c.in-On.ensures)

pub loop-end-smaller-in-Row : goal.loop-end-smaller-in-Row
loop-end-smaller-in-Row c =
    omega (arith, judging_further c.loop-end.invariant (sym c.in-Token.ensures))

pub loop-end-preserved-in-Row : goal.loop-end-preserved-in-Row
loop-end-preserved-in-Row c =
    judging_row c.loop-end.invariant (sym c.in-Token.ensures) (sym c.in-Row.ensures)

pub loop-end-smaller : goal.loop-end-smaller
loop-end-smaller c =
    omega (arith, judging_further c.loop-end.invariant (sym c.in-Token.ensures))

pub loop-end-preserved : goal.loop-end-preserved
loop-end-preserved c =
    judging_thread c.loop-end.invariant (sym c.in-Token.ensures) (sym c.in-Thread.ensures)

pub loop-end-init : goal.loop-end-init
loop-end-init c = judging_start _
