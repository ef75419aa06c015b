-- What the parts ask for and pass on; nothing public speaks of it.
use Rattle.std.specs.Prelude.{◌≡◌, Bool, List, ℕ, ◌<◌, length}
use Rattle.turns.specs.Turns.{does_go_first}
use Rattle.steps.specs.Writing.{picked_first}
use Rattle.replay.specs.Writer.{schedule_by, apart_from}

-- the schedule in which the commands of a list go first
abbrev pub first_schedule : List Bool → List ℕ → List ℕ → List ℕ
first_schedule early commands lengths = schedule_by (picked_first (does_go_first early) lengths) commands lengths

-- the list says it of d and of what c does not reach
pub record PutsApart (ρ : ℕ → ℕ → Bool) (c d : ℕ) (before after : List Bool) : Type 0 where
  pub long : length after ≡ length before
  pub each : (x : ℕ) → x < length before → does_go_first after x ≡ apart_from ρ c d x
