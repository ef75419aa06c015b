-- `refuse` meets its contract: the tables are refused, or the rooms. Assumes nothing.
use Rattle.std.proofs.Common.{◌∙◌}
use Rattle.std.proofs.lemmas.Result.{err_from_is_err_and}
use Rattle.rooms.proofs.Refusals.{refuses_tables, refuses_rooms}
use Rattle.rooms.proofs.refusal.refuse.Goals as goal

pub returns-in_err-check_tables : goal.returns-in_err-check_tables
returns-in_err-check_tables c =
    let p = err_from_is_err_and c.from_residual.result c.from_residual.ensures.1 in
    rw (p.1, p.2) (refuses_tables _ _ _ _ _ c.in_err-check_tables.ensures)

pub returns : goal.returns
returns c = c.refuse_sizes.ensures ∙ refuses_rooms _ _ _ _ c.in_ok-check_tables.ensures
