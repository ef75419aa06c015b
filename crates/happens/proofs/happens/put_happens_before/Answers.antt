-- `put_happens_before` meets its contract: refused before the room is touched, or what is listed reaches as far as happens-before. Assumes nothing.
use mathlib.Core.Path.{refl, sym, ap}
use Rattle.std.proofs.lemmas.Result.{err_from_is_err_and}
use Rattle.verdicts.specs.declared.Told.{Told}
use Rattle.rooms.proofs.Refusals.{ample}
use Rattle.happens.proofs.happens.put_happens_before.Goals as goal

pub returns-in_err-refuse_sizes : goal.returns-in_err-refuse_sizes
returns-in_err-refuse_sizes c =
    let p = err_from_is_err_and c.from_residual.result c.from_residual.ensures.1 in
    rw (p.1, p.2) (record { refusal = c.in_err-refuse_sizes.ensures; kept = refl; holds = tt })

pub put_reached-requires : goal.put_reached-requires
put_reached-requires c = ample _ _ _ (ap (λ (t : Told). t.number) (sym c.in_ok-refuse_sizes.ensures))

pub returns : goal.returns
returns c = record { refusal = c.in_ok-refuse_sizes.ensures; kept = tt; holds = c.put_reached.ensures }
