-- Two answers that meet the contract of a public function for the same inputs are equal. Assumes nothing.
use mathlib.Core.Path.{◌≡◌, sym, ◌∙◌}
use mathlib.Core.Bool.{Bool}
use mathlib.Core.List.{List}
use Prim.Native.Nat.{ℕ}
use Rattle.verdicts.specs.declared.Verdict.{Verdict}
use Rattle.verdicts.proofs.Verdicts.{numbered_one}
use Rattle.steps.specs.declared.going.Replayed.{Replayed}
use Rattle.steps.specs.declared.state.Replay.{Replay}
use Rattle.steps.specs.declared.step.Stepped.{Stepped}
use Rattle.steps.specs.Promise.{AnswersReplayStart, AnswersStep, AnswersReplayedStart, AnswersGoOn, AnswersEnding, WritesOn}

pub start_one : {r s : Replay} → AnswersReplayStart r → AnswersReplayStart s → r ≡ s
start_one e f = e ∙ sym f

pub begun_one : {r s : Replayed} → AnswersReplayedStart r → AnswersReplayedStart s → r ≡ s
begun_one e f = e ∙ sym f

module _ (commands lengths : List ℕ) where
  pub step_one : (s : Replay) (t : ℕ) {r q : Stepped} → AnswersStep s commands lengths t r → AnswersStep s commands lengths t q → r ≡ q
  step_one s t e f = e ∙ sym f

  pub go_on_one : (from : Replayed) (entries : List ℕ) {r q : Replayed} → AnswersGoOn from commands lengths entries r → AnswersGoOn from commands lengths entries q → r ≡ q
  go_on_one from entries e f = e ∙ sym f

  pub ending_one : (s : Replay) (steps : ℕ) (r q : Verdict) → AnswersEnding s lengths steps r → AnswersEnding s lengths steps q → r ≡ q
  ending_one s steps r q e f = numbered_one r q (e ∙ sym f)

  pub write_on_one : (from : Replay) (early : List Bool) (room : List ℕ) {a b : List ℕ} {m n : ℕ} → WritesOn from commands lengths early room a m
      → WritesOn from commands lengths early room b n → (m ≡ n) × (a ≡ b)
  write_on_one from early room {a} {b} {m} {n} F G =
      (F.long ∙ sym G.long, F.room ∙ sym G.room)
