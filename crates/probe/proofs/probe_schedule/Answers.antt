-- `probe_schedule` meets its contract. Assumes nothing.
use mathlib.Core.Path.{◌≡◌, refl, ap, ◌∙◌}
use native.Mathlib.Omega.{arith}
use Rattle.verdicts.specs.declared.Refusal.{Refusal}
use Rattle.verdicts.specs.declared.Told.{Told}
use Rattle.verdicts.specs.declared.Verdict.{Verdict}
use Rattle.verdicts.specs.declared.Verdict.TheVariants.{Refused}
use Rattle.verdicts.specs.Verdicts.{refused, numbered}
use Rattle.probe.specs.Numbers.{answer_room}
use Rattle.probe.proofs.Fitting.{written_counted}
use Rattle.probe.proofs.Telling.{schedule_short, schedule_told}
use Rattle.probe.proofs.probe_schedule.Goals as goal

-- what is told of a verdict that is made of a refusal
refused_told : {r : Refusal} {v : Verdict} {t : Told} → v ≡ Refused r → t ≡ numbered v → t ≡ refused r
refused_told is e = e ∙ ap numbered is

pub returns-then-answer-lt-NUMBERS : goal.returns-then-answer-lt-NUMBERS
unfolding answer_room
returns-then-answer-lt-NUMBERS c = schedule_short _ _ _ _ (omega (arith, c.if-answer-lt-NUMBERS.true))

pub put_told-requires : goal.put_told-requires
put_told-requires c =
    (omega (arith, c.if-answer-lt-NUMBERS.false), rw c.told.ensures (written_counted _ c.in-Ok.ensures))

pub put_told-requires-in-Err : goal.put_told-requires-in-Err
put_told-requires-in-Err c =
    (omega (arith, c.if-answer-lt-NUMBERS.false), rw (refused_told c.from.ensures c.told-told.ensures) (written_counted _ c.in-Err.ensures))

pub returns-in-Ok : goal.returns-in-Ok
unfolding answer_room
returns-in-Ok c =
    schedule_told _ _ _ _ _ (omega (arith, c.if-answer-lt-NUMBERS.false)) c.in-Ok.ensures refl (rw c.told.ensures at c.put_told.ensures)

pub returns-in-Err : goal.returns-in-Err
unfolding answer_room
returns-in-Err c =
    schedule_told _ _ _ _ _ (omega (arith, c.if-answer-lt-NUMBERS.false)) c.in-Err.ensures (refused_told c.from.ensures c.told-told.ensures) c.put_told-in-Err.ensures
