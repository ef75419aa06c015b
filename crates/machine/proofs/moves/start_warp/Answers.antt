-- `start` meets its contract: the kernel is entered, or the room cannot be used. Assumes nothing.
use mathlib.Core.Path.{sym, ◌∙◌}
use borrow.Author.Rules.{rules}
use Rattle.machine.proofs.Doors.{roomy, started, unstarted}
use Rattle.machine.proofs.moves.start_warp.Goals as goal

pub enter-requires : goal.enter-requires
enter-requires c = roomy _ _ (sym c.fits.ensures ∙ c.if-fits.true)

pub returns-then-fits : goal.returns-then-fits
returns-then-fits c = started _ _ _ _ c.fits.ensures c.if-fits.true c.all_of-active.ensures c.enter.ensures.held (search rules)

pub returns : goal.returns
returns c = unstarted _ _ _ _ c.fits.ensures c.if-fits.false
