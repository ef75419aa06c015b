use Rattle.exhibits.proofs.Showing.{other_found, other_none}
use Rattle.exhibits.proofs.shown.other_generation.Goals as goal

pub returns-then-found-c : goal.returns-then-found-c
returns-then-found-c c = other_found _ _ c.loop-c.invariant c.loop-c-test.true c.if-found-c.true

pub returns : goal.returns
returns c = other_none _ _ c.loop-c.invariant c.loop-c-test.false
