-- `find_faults` meets its contract: refused, or looked over. Assumes nothing.
use mathlib.Core.Path.{sym, ap}
use Rattle.verdicts.specs.declared.Told.{Told}
use Rattle.rooms.proofs.Refusals.{ample}
use Rattle.findings.proofs.Founds.{finds_refused, finds_looked}
use Rattle.findings.proofs.finding.find_faults.Goals as goal

pub returns-in-Err : goal.returns-in-Err
returns-in-Err c = rw c.bare.ensures (finds_refused _ _ _ _ _ c.in-Err.ensures c.into.ensures)

pub look_over-requires : goal.look_over-requires
look_over-requires c =
    let A = ample _ _ _ (ap (λ (t : Told). t.number) (sym c.in_default.ensures)) in
    (A.few_rows, A.generations_fit)

pub returns : goal.returns
returns c = finds_looked _ _ _ _ c.in_default.ensures c.look_over.ensures
