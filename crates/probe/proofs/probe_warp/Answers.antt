-- `probe_warp` meets its contract: the answer room has what the run told. Assumes nothing.
use native.Mathlib.Omega.{arith}
use lib.ListN.{length-set}
use Rattle.probe.specs.Numbers.{answer_room}
use Rattle.probe.proofs.Fitting.{run_counted}
use Rattle.probe.proofs.Telling.{warp_short, warp_told}
use borrow.Author.Rules.{rules}
use Rattle.probe.proofs.probe_warp.Goals as goal

pub returns-then-answer-lt-NUMBERS : goal.returns-then-answer-lt-NUMBERS
unfolding answer_room
returns-then-answer-lt-NUMBERS c = warp_short _ _ _ _ _ _ (omega (arith, c.if-answer-lt-NUMBERS.true))

pub put_told-requires : goal.put_told-requires
put_told-requires c =
    (omega (arith, c.if-answer-lt-NUMBERS.false), rw c.ran_of-ran.ensures (run_counted _ _ _ _ _ _ _ c.run_kernel.ensures))

pub bounds-answer-5 : goal.bounds-answer-5
bounds-answer-5 c = simp length-set (search rules)

pub returns : goal.returns
unfolding answer_room
returns c =
    warp_told _ _ _ _ _ _ (omega (arith, c.if-answer-lt-NUMBERS.false)) c.run_kernel.ensures c.ran_of-ran.ensures c.put_told.ensures
