-- `run_kernel` meets its contract: a short room, a refusal, or the run. Assumes nothing.
use native.Mathlib.Omega.{arith}
use Rattle.std.proofs.lemmas.Result.{err_from_is_err_and}
use Rattle.runs.proofs.Running.{door_small, door_refused, door_run, door_few}
use Rattle.runs.proofs.run_kernel.Goals as goal

pub returns-then-cells-lt-CELLS : goal.returns-then-cells-lt-CELLS
returns-then-cells-lt-CELLS c = door_small _ _ _ _ _ (omega (arith, c.if-cells-lt-CELLS.true))

pub returns-in_err-ruling : goal.returns-in_err-ruling
returns-in_err-ruling c =
    let p = err_from_is_err_and c.from_residual.result c.from_residual.ensures.1 in
    rw (p.1, p.2) (door_refused _ _ _ _ _ (omega (arith, c.if-cells-lt-CELLS.false)) _ c.in_err-ruling.ensures)

pub run_from-requires : goal.run_from-requires
run_from-requires c = door_few _ _ _ c.in_ok-ruling.ensures

pub returns : goal.returns
returns c =
    door_run _ _ _ _ _ (omega (arith, c.if-cells-lt-CELLS.false)) _ c.in_ok-ruling.ensures c.run_from.ensures
