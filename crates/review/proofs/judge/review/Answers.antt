-- `review` meets its contract: refused and judged before a room is touched; or the generations and happens-before are put, and faults are looked for over them. Assumes nothing.
use mathlib.Core.Path.{◌≡◌, sym, ap}
use Rattle.verdicts.specs.Verdicts.{tell}
use Rattle.verdicts.specs.declared.Told.{Told}
use Rattle.rooms.proofs.Refusals.{admitted}
use Rattle.review.proofs.Reviews.{reviewed_refused, reviewed_judged, reviewed_filled, happens}
use Rattle.review.proofs.judge.review.Goals as goal

-- what is not refused has number 0
passes : {t : Told} → tell 0 0 0 ≡ t → t.number ≡ 0
passes e = ap (λ (t : Told). t.number) (sym e)

pub returns : goal.returns
returns c =
    reviewed_filled _ _ _ _ _ (passes c.in_default.ensures) c.judge-judged.ensures c.in-Clean.is c.put_generations.ensures c.put_generations.auto.room
    c.put_happens_before.ensures c.find_faults.ensures

pub returns-in-Err : goal.returns-in-Err
returns-in-Err c = rw c.bare.ensures (reviewed_refused _ _ _ _ _ _ c.in-Err.ensures c.into.ensures)

pub returns-in_default-verdict : goal.returns-in_default-verdict
returns-in_default-verdict c =
    rw c.bare-in_default-verdict.ensures
    (reviewed_judged _ _ _ _ _ (passes c.in_default.ensures) c.judge-judged.ensures c.in_default-verdict.not-Clean)

pub put_generations-requires : goal.put_generations-requires
put_generations-requires c = let A = admitted _ _ _ _ (passes c.in_default.ensures) in (A.generations_fit, A.keeps.few_rows)

pub unwrap-requires : goal.unwrap-requires
unwrap-requires c = happens _ _ c.args.schedule.now _ _ (passes c.in_default.ensures) c.put_generations.auto.room c.put_happens_before.ensures
