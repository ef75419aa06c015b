use mathlib.Core.Path.{refl}
use native.Mathlib.Omega.{arith}
use lib.ListN.{length-set}
use Rattle.sheet.specs.Sheet.{most_kept}
use Rattle.probe.specs.Numbers.{answer_room}
use Rattle.probe.proofs.Putting.{putting_none, putting_more, putting_done}
use borrow.Author.Rules.{rules}
use Rattle.probe.proofs.answer.put_sheet.Goals as goal

pub loop-i-init : goal.loop-i-init
unfolding answer_room most_kept
loop-i-init c = (refl, putting_none _ _ (omega (arith, c.requires.1.many)))

-- both numbers of a pair are small
pub overflow_cast-answer : goal.overflow_cast-answer
unfolding most_kept
overflow_cast-answer c =
    let (a, b) = c.requires.1.each c.loop-i.i (search rules) in
    omega (arith, a, b)

pub overflow_cast-answer-in-loop-i : goal.overflow_cast-answer-in-loop-i
unfolding most_kept
overflow_cast-answer-in-loop-i c =
    let (a, b) = c.requires.1.each c.loop-i.i (search rules) in
    omega (arith, a, b)

pub loop-i-preserved : goal.loop-i-preserved
unfolding most_kept
loop-i-preserved c =
    let l = c.loop-i in
    let t = c.loop-i-test.true in
    (search rules, putting_more _ _ _ l.i l.invariant.1 _ _ refl refl (omega (arith, t, c.requires.1.many)))

pub returns : goal.returns
unfolding most_kept
returns c = let l = c.loop-i in putting_done _ _ _ l.i l.invariant.1 (omega (arith, c.requires.1.many, c.loop-i-test.false))

pub bounds-answer-i-in-loop-i : goal.bounds-answer-i-in-loop-i
unfolding answer_room
bounds-answer-i-in-loop-i c = simp length-set (search rules)
