-- `put_exhibits` meets its contract, by the verdict's number. Assumes nothing.
use mathlib.Core.Path.{sym, ◌∙◌}
use native.Mathlib.Omega.{arith}
use Rattle.printing.proofs.Placing.{puts_none, puts_as}
use Rattle.exhibits.proofs.Doors.{said_admitted, said_refused, roomy, exhibited_none, exhibited_all, exhibits_ten, exhibits_eleven, exhibits_none}
use Rattle.exhibits.proofs.exhibit.put_exhibits.Goals as goal

pub returns-then-not-admits : goal.returns-then-not-admits
returns-then-not-admits c = puts_as (sym (exhibited_none _ _ _ _ (said_refused c.admits.ensures c.if-not-admits.true) _ _)) (puts_none _)

pub invariant_of-admitted : goal.invariant_of-admitted
invariant_of-admitted c = record { roomy = roomy _ _ _ _ (said_admitted c.admits.ensures c.if-not-admits.false) }

pub invariant_of-admitted-in-11 : goal.invariant_of-admitted-in-11
invariant_of-admitted-in-11 c = record { roomy = roomy _ _ _ _ (said_admitted c.admits.ensures c.if-not-admits.false) }

pub returns-in-10 : goal.returns-in-10
returns-in-10 c =
    puts_as (sym (exhibited_all _ _ _ _ (said_admitted c.admits.ensures c.if-not-admits.false) _ _ ∙ exhibits_ten _ _ _ _ _ _ c.in-10.is)) c.put_reuse.ensures

pub returns-in-11 : goal.returns-in-11
returns-in-11 c =
    puts_as (sym (exhibited_all _ _ _ _ (said_admitted c.admits.ensures c.if-not-admits.false) _ _ ∙ exhibits_eleven _ _ _ _ _ _ c.in-11.is)) c.put_races.ensures

pub returns-in_default : goal.returns-in_default
returns-in_default c =
    puts_as (sym (exhibited_all _ _ _ _ (said_admitted c.admits.ensures c.if-not-admits.false) _ _ ∙ exhibits_none _ _ _ _ _ _ (λ e. absurd (omega arith)) (λ e. absurd (omega arith)))) (puts_none _)
