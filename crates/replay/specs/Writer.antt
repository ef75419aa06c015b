-- The schedules that are written: from the start, by a choice of who steps (R24, R25, R39). The schedule writer always lets the lowest allowed thread step; the one that shows a fault prefers
-- what a command does not reach (R62).
use Rattle.std.specs.Prelude.{Bool, not, ◌||◌, List, [], ◌∷◌, ℕ, eqb}
use Rattle.tables.specs.Rows.{rows}
use Rattle.rules.specs.Rules.{checked}
use Rattle.verdicts.specs.FirstTold.{or_else}
use Rattle.verdicts.specs.declared.Told.{Told}
use Rattle.rooms.specs.declared.short.Room.{Room}
use Rattle.rooms.specs.Short.{room_of, first_short}
use Rattle.steps.specs.declared.state.Replay.{Replay}
use Rattle.steps.specs.State.{start}
use Rattle.steps.specs.Ending.{lowest_allowed}
use Rattle.steps.specs.Writing.{stepping, picked_first}

-- The schedule of two tables. M steps are enough for it to be complete (R24, R25).
unfoldable pub schedule_by : (Replay → ℕ) → List ℕ → List ℕ → List ℕ
schedule_by choose commands lengths = stepping choose commands lengths (rows commands) start

-- The lowest allowed thread steps (R24).
unfoldable pub schedule : List ℕ → List ℕ → List ℕ
schedule commands lengths = schedule_by (lowest_allowed lengths) commands lengths

-- ---- a schedule in which some commands go first

-- d, and what c does not reach (R62)
unfoldable pub apart_from : (ℕ → ℕ → Bool) → (c d : ℕ) → ℕ → Bool
apart_from ρ c d x = eqb x d || not (ρ c x)

-- d and what c does not reach go first, as far as they can (R62)
abbrev pub apart_schedule : List ℕ → List ℕ → (ℕ → ℕ → Bool) → (c d : ℕ) → List ℕ
apart_schedule commands lengths ρ c d = schedule_by (picked_first (apart_from ρ c d) lengths) commands lengths

-- ---- refusals

-- the room of a schedule writer, which is lent no other: 2 the schedule room (R39)
abbrev pub writer_rooms : (m given : ℕ) → List Room
writer_rooms m given = room_of 2 m given ∷ []

-- 1 to 4, of tables and the length of the room (R25, R37)
unfoldable pub unwritten : List ℕ → List ℕ → ℕ → Told
unwritten commands lengths given = or_else (checked commands lengths) (first_short (writer_rooms (rows commands) given))
