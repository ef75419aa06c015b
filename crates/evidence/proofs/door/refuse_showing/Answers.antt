-- `refuse_showing` meets its contract: refused without evidence, or the evidence room is looked at. Assumes nothing.
use mathlib.Core.Path.{sym, ap, ◌∙◌}
use native.Mathlib.Omega.{arith}
use Rattle.std.proofs.lemmas.Result.{err_from_is_err_and}
use Rattle.tables.specs.Limits.{most_rows}
use Rattle.verdicts.specs.declared.Told.{Told}
use Rattle.rooms.proofs.Refusals.{admitted}
use Rattle.evidence.proofs.Doors.{showing_first, showing_room}
use Rattle.evidence.proofs.door.refuse_showing.Goals as goal

pub returns-in_err-refuse : goal.returns-in_err-refuse
returns-in_err-refuse c =
    let p = err_from_is_err_and c.from_residual.result c.from_residual.ensures.1 in
    rw (p.1, p.2) (showing_first _ _ _ _ _ _ c.in_err-refuse.ensures)

pub overflow_mul-needed : goal.overflow_mul-needed
unfolding most_rows
overflow_mul-needed c =
    let a = c.args in
    let A = admitted a.tables.commands.now a.tables.lengths.now a.wide a.high (ap (λ (t : Told). t.number) (sym c.in_ok-refuse.ensures)) in
    record { fits = omega (arith, A.keeps.few_rows) }

pub returns : goal.returns
returns c = c.short_room.ensures ∙ showing_room _ _ _ _ _ c.in_ok-refuse.ensures
