-- Schedules that a choice writes: at each step it says which thread steps. The schedule writer always lets the lowest allowed thread step (R24, R25); the one that shows a fault prefers
-- some commands (R61, R62).
use Rattle.std.specs.Prelude.{◌≡◌, Bool, true, false, cond, ◌&&◌, List, [], ◌∷◌, ℕ, zero, suc, ltb, length}
use Rattle.tables.specs.Over.{over}
use Rattle.turns.specs.Turns.{does_go_first, lowest_or}
use Rattle.steps.specs.declared.state.Replay.{Replay}
use Rattle.steps.specs.declared.step.How.TheVariants.{Mismatch, Ran}
use Rattle.steps.specs.declared.step.Did.{Did}
use Rattle.steps.specs.declared.step.Did.TheVariants.{NotAllowed, Took}
use Rattle.steps.specs.Step.{allowed, command, stepped}

-- A schedule goes on after a command that ran, and ends with the step that mismatches (R24).
abbrev pub does_go_on : Did → Bool
does_go_on NotAllowed = false
does_go_on (Took (Mismatch c)) = false
does_go_on (Took (Ran c generation)) = true

-- The steps from a state, at most n: the chosen thread each time, until none is chosen or the step mismatches (R24).
unfoldable pub stepping : (Replay → ℕ) → List ℕ → List ℕ → ℕ → Replay → List ℕ
stepping choose commands lengths zero s = []
stepping choose commands lengths (suc n) s =
    cond (ltb (choose s) (length lengths))
    (choose s ∷ cond (does_go_on (stepped commands lengths s (choose s)).did) (stepping choose commands lengths n (stepped commands lengths s (choose s)).after) [])
    []

-- thread t may step, and its next command goes first (R62)
unfoldable pub picked : (ℕ → Bool) → List ℕ → Replay → ℕ → Bool
picked early lengths s t = allowed lengths s t && early (command lengths s t)

-- Where there is such a thread, the lowest of them steps, and else the lowest allowed thread (R62).
unfoldable pub picked_first : (ℕ → Bool) → List ℕ → Replay → ℕ
picked_first early lengths s = lowest_or (picked early lengths s) (allowed lengths s) (length lengths)

-- A schedule stands first in the room, and the room beyond it is kept (R25, R61).
pub record FilledBy (σ before after : List ℕ) (n : ℕ) : Type 0 where
  pub long : n ≡ length σ
  pub room : after ≡ over σ before

-- at most n steps from a state, where the commands of a list go first
abbrev pub writes : List Bool → List ℕ → List ℕ → ℕ → Replay → List ℕ
writes early commands lengths = stepping (picked_first (does_go_first early) lengths) commands lengths
