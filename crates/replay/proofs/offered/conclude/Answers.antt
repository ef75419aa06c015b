-- `conclude` meets its contract: 5 and 7 stand before 6, 8 and 9. Assumes nothing.
use mathlib.Core.Path.{sym, ap, ◌∙◌}
use Rattle.steps.specs.Ending.{ended, judged}
use Rattle.verdicts.specs.Verdicts.{numbered}
use Rattle.verdicts.proofs.Verdicts.{zero_clean}
use Rattle.verdicts.proofs.FirstTold.{or_first, or_passed}
use Rattle.replay.proofs.offered.conclude.Goals as goal

pub returns-in-Clean : goal.returns-in-Clean
unfolding judged
returns-in-Clean c = c.ending.ensures ∙ or_passed (ap numbered (sym c.in-Clean.is)) (ended _ _ _)

pub returns-in_default : goal.returns-in_default
unfolding judged
returns-in_default c = or_first _ (ended _ _ _) (λ e. c.in_default.not-Clean (zero_clean c.args.replayed.verdict e))
