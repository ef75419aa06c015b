-- `acting_several` meets its contract: the room that is taken serves. Assumes nothing.
use Rattle.std.proofs.Common.{arith}
use Rattle.kernels.specs.Limits.{most_expressions}
use Rattle.values.proofs.Several.{most_needed}
use Rattle.values.proofs.acting.acting_several.Goals as goal

pub overflow_add-needed : goal.overflow_add-needed
unfolding most_expressions
overflow_add-needed c = omega arith

pub overflow_mul-needed : goal.overflow_mul-needed
overflow_mul-needed c = let p = c.requires in omega (arith, most_needed _ _ p.0 p.1)

pub acting_sized-requires : goal.acting_sized-requires
acting_sized-requires c = let p = c.requires in (c.if-needed-le-SMALL.true, omega arith, p.0, p.1)

pub acting_sized-requires-then-needed-le-MIDDLE : goal.acting_sized-requires-then-needed-le-MIDDLE
acting_sized-requires-then-needed-le-MIDDLE c = let p = c.requires in (c.if-needed-le-MIDDLE.true, omega arith, p.0, p.1)

pub acting_sized-requires-2 : goal.acting_sized-requires-2
acting_sized-requires-2 c = let p = c.requires in (most_needed _ _ p.0 p.1, omega arith, p.0, p.1)
