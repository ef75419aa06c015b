-- What is proved of steps and entries. Stepping and Entries, in proofs/, have a proof of each, under the same name in small letters.
use Rattle.std.specs.Prelude.{◌≡◌, ◌≢◌, true, List, ◌++◌, ℕ, ◌<◌, length}
use Rattle.verdicts.specs.Verdicts.{numbered}
use Rattle.barriers.specs.declared.barrier.Phase.TheVariants.{Unset}
use Rattle.steps.specs.declared.state.Replay.{Replay}
use Rattle.steps.specs.declared.going.Replayed.{Replayed}
use Rattle.steps.specs.State.{waiting, barrier_at}
use Rattle.steps.specs.Step.{registering}
use Rattle.steps.specs.Going.{go_on}

-- With count 1 a sync never stays blocked (R12).
abbrev pub CountOne : Type 0
CountOne = (s : Replay) (t c b : ℕ) → (barrier_at s b).phase ≡ Unset → t < length s.waits → waiting (registering s t c true b 1).after t ≡ 0

module _ (commands lengths : List ℕ) where
  -- Entries that are joined go on one after the other, from any point.
  abbrev pub GoOnJoined : Type 0
  GoOnJoined = (σ τ : List ℕ) (r : Replayed) → go_on commands lengths (σ ++ τ) r ≡ go_on commands lengths τ (go_on commands lengths σ r)

  -- Where a replay has ended, nothing changes (R20).
  abbrev pub StaysEnded : Type 0
  StaysEnded = (r : Replayed) → (numbered r.verdict).number ≢ 0 → (σ : List ℕ) → go_on commands lengths σ r ≡ r
