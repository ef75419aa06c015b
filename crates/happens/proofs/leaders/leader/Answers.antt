-- Who sits in the seat is met, or is another's, or nobody. Assumes nothing.
use Rattle.std.proofs.Common.{◌≡◌, sym, ap, ◌∙◌, ℕ, List, get_or, Some}
use Rattle.happens.proofs.Leading.{or_here, or_last_lem, or_none}
use Rattle.happens.proofs.leaders.leader.Goals as goal

-- who sits in the seat that was found
sat : (leaders : List ℕ) {at seat r : ℕ} → at ≡ seat → r ≡ get_or leaders at 0 → r ≡ get_or leaders seat 0
sat leaders e f = f ∙ ap (λ (p : ℕ). get_or leaders p 0) e

pub returns-then-meets_row : goal.returns-then-meets_row
returns-then-meets_row c =
    let e = sat c.args.leaders.now c.seat.ensures.0 c.from-sits.ensures in
    ap Some e ∙ sym (or_here _ _ _ (rw e at (sym c.meets_row.ensures ∙ c.if-meets_row.true)))

pub returns-then-sits-rows : goal.returns-then-sits-rows
returns-then-sits-rows c =
    let e = sat c.args.leaders.now c.seat.ensures.0 c.from-sits.ensures in
    c.last_met.ensures ∙ sym (or_last_lem _ _ _ (rw e at (sym c.meets_row.ensures ∙ c.if-meets_row.false)) (rw (e, c.rows.ensures) at c.if-sits-rows.true))

pub returns : goal.returns
returns c =
    let e = sat c.args.leaders.now c.seat.ensures.0 c.from-sits.ensures in
    sym (or_none _ _ _ (rw e at (sym c.meets_row.ensures ∙ c.if-meets_row.false)) (rw (e, c.rows.ensures) at c.if-sits-rows.false))
