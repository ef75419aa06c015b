-- What each public function promises.
use Rattle.std.specs.Prelude.{◌≡◌, Bool, List, ℕ, length}
use Rattle.verdicts.specs.Verdicts.{numbered}
use Rattle.verdicts.specs.declared.Verdict.{Verdict}
use Rattle.steps.specs.declared.going.Replayed.{Replayed}
use Rattle.steps.specs.declared.state.Replay.{Replay}
use Rattle.steps.specs.declared.step.Stepped.{Stepped}
use Rattle.steps.specs.State.{start}
use Rattle.steps.specs.Step.{stepped}
use Rattle.steps.specs.Going.{begun, go_on}
use Rattle.steps.specs.Ending.{ended}
use Rattle.steps.specs.Writing.{writes, FilledBy}

-- `Replay::start`
abbrev pub AnswersReplayStart : (r : Replay) → Type 0
AnswersReplayStart r = r ≡ start

-- `Replay::step`
abbrev pub AnswersStep : (state : Replay) (commands lengths : List ℕ) (t : ℕ) (r : Stepped) → Type 0
AnswersStep state commands lengths t r = r ≡ stepped commands lengths state t

-- `Replayed::start`
abbrev pub AnswersReplayedStart : (r : Replayed) → Type 0
AnswersReplayedStart r = r ≡ begun

-- `go_on`
abbrev pub AnswersGoOn : (from : Replayed) (commands lengths entries : List ℕ) (r : Replayed) → Type 0
AnswersGoOn from commands lengths entries r = r ≡ go_on commands lengths entries from

-- `Replay::ending`
abbrev pub AnswersEnding : (state : Replay) (lengths : List ℕ) (steps : ℕ) (r : Verdict) → Type 0
AnswersEnding state lengths steps r = numbered r ≡ ended lengths state steps

-- `write_on`: as many steps as the room has places for, at most
abbrev pub WritesOn : (from : Replay) (commands lengths : List ℕ) (early : List Bool) (room room' : List ℕ) (r : ℕ) → Type 0
WritesOn from commands lengths early room room' r = FilledBy (writes early commands lengths (length room) from) room room' r
