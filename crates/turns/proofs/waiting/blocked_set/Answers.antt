use borrow.Author.Rules.{rules}
use Rattle.turns.proofs.Kept.{held_none, held_more, held_all}
use Rattle.turns.proofs.waiting.blocked_set.Goals as goal

pub loop-t-init : goal.loop-t-init
loop-t-init c = held_none _ c.none-blocked.ensures

pub loop-t-preserved : goal.loop-t-preserved
loop-t-preserved c = held_more _ _ c.loop-t.invariant c.is_held.ensures c.put-blocked.ensures

pub returns : goal.returns
returns c = held_all _ c.loop-t.invariant (search rules) c.loop-t-test.false
