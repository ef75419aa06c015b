-- `put_told` meets its contract: the four numbers stand first, in their order. Assumes nothing.
use lib.ListN.{length-set}
use borrow.Author.Rules.{rules}
use Rattle.probe.proofs.Putting.{put_four}
use Rattle.probe.proofs.answer.put_told.Goals as goal

pub returns : goal.returns
returns c =
    let a = c.args in
    put_four a.answer.now a.told.place a.told.also a.third a.fourth c.requires.0

pub bounds-answer-1 : goal.bounds-answer-1
bounds-answer-1 c = simp length-set (search rules)

pub bounds-answer-2 : goal.bounds-answer-2
bounds-answer-2 c = simp length-set (search rules)

pub bounds-answer-3 : goal.bounds-answer-3
bounds-answer-3 c = simp length-set (search rules)
