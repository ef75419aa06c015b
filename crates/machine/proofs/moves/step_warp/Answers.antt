-- `step` meets its contract: the warp moves on, or the room cannot be used. Assumes nothing.
use mathlib.Core.Path.{sym, ◌∙◌}
use borrow.Author.Rules.{rules}
use Rattle.machine.proofs.Doors.{roomy, stepped, unstepped}
use Rattle.machine.proofs.moves.step_warp.Goals as goal

pub move_on-lanes-requires : goal.move_on-lanes-requires
move_on-lanes-requires c = roomy _ _ (sym c.fits.ensures ∙ c.if-fits.true)

pub returns-then-fits : goal.returns-then-fits
returns-then-fits c = stepped _ _ _ _ _ _ c.fits.ensures c.if-fits.true c.move_on-lanes.ensures.is (search rules)

pub returns : goal.returns
returns c = unstepped _ _ _ _ _ _ c.fits.ensures c.if-fits.false
