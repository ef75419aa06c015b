-- `probe_review` meets its contract. Assumes nothing.
use native.Mathlib.Omega.{arith}
use Rattle.probe.specs.Numbers.{answer_room}
use Rattle.probe.proofs.Fitting.{review_counted, pairs_counted}
use Rattle.probe.proofs.Telling.{review_short, review_told}
use Rattle.probe.proofs.probe_review.Goals as goal

pub returns-then-answer-lt-NUMBERS : goal.returns-then-answer-lt-NUMBERS
unfolding answer_room
returns-then-answer-lt-NUMBERS c = review_short _ _ _ _ _ _ _ (omega (arith, c.if-answer-lt-NUMBERS.true))

pub put_told-requires : goal.put_told-requires
put_told-requires c =
    (omega (arith, c.if-answer-lt-NUMBERS.false), rw c.told-told.ensures (review_counted c.review_evidence-shown.ensures))

pub put_sheet-requires : goal.put_sheet-requires
unfolding answer_room
put_sheet-requires c =
    (omega (arith, c.put_told.auto.answer, c.if-answer-lt-NUMBERS.false), pairs_counted c.review_evidence-shown.ensures)

pub returns : goal.returns
unfolding answer_room
returns c =
    review_told _ _ _ _ _ _ _ (omega (arith, c.if-answer-lt-NUMBERS.false)) c.review_evidence-shown.ensures c.told-told.ensures c.put_told.ensures c.put_sheet.ensures
