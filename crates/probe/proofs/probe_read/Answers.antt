-- `probe_read` meets its contract: the rest of the text is where it is found to begin. Assumes nothing.
use mathlib.Core.Path.{◌∙◌}
use native.Mathlib.Omega.{arith}
use Rattle.probe.specs.Numbers.{answer_room}
use Rattle.probe.proofs.Fitting.{reading_counted}
use Rattle.probe.proofs.Telling.{read_short, read_told, rest_begins, sizes_found}
use Rattle.probe.proofs.probe_read.Goals as goal

pub returns-then-answer-lt-NUMBERS : goal.returns-then-answer-lt-NUMBERS
unfolding answer_room
returns-then-answer-lt-NUMBERS c = read_short _ _ _ _ (omega (arith, c.if-answer-lt-NUMBERS.true))

pub put_told-requires : goal.put_told-requires
put_told-requires c =
    (omega (arith, c.if-answer-lt-NUMBERS.false), rw (c.told-told.ensures, c.unwrap_or-found.ensures, sizes_found c.read-reading.result) (reading_counted _ c.read-reading.ensures))

pub overflow_sub-text : goal.overflow_sub-text
overflow_sub-text c =
    let a = c.args in
    (rest_begins a.text.now c.read-reading.result _ c.rest.ensures.0).0

pub returns : goal.returns
unfolding answer_room
returns c =
    read_told _ _ _ _ (omega (arith, c.if-answer-lt-NUMBERS.false)) c.read-reading.ensures c.told-told.ensures (c.unwrap_or-found.ensures ∙ sizes_found c.read-reading.result) c.put_told.ensures c.rest.ensures.0
    c.capped.ensures
