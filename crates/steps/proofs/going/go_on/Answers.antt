-- `go_on` meets its contract, by whether the replay has ended. Assumes nothing.
use Rattle.relation.proofs.Truth.{clashing}
use Rattle.steps.proofs.Entries.{goes_ended}
use Rattle.steps.proofs.going.go_on.Goals as goal
use Rattle.steps.proofs.going.go_on.Goals.{in-Clean, in_default}

pub returns-then-not-matches : goal.returns-then-not-matches
returns-then-not-matches c =
    elim c.match-matches.branch [
      | in-Clean w ↦ clashing w.matches-is c.if-not-matches.true
      | in_default w ↦ goes_ended _ _ _ _ w.in_default.not-Clean
    ]
