-- `judge` meets its contract: the schedule is played from the start, and what it came to is judged. Assumes nothing.
use mathlib.Core.Path.{ap, ◌∙◌}
use Rattle.steps.specs.Going.{go_on, played}
use Rattle.replay.proofs.Told.{judges_replayed}
use Rattle.replay.proofs.offered.judge.Goals as goal

pub returns : goal.returns
unfolding played
returns c =
    judges_replayed _ _ _ c.go_on-replayed.result (c.go_on-replayed.ensures ∙ ap (go_on _ _ _) c.start.ensures) _ c.conclude-verdict.ensures
