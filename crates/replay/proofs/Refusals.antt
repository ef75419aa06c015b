-- Refusals 1 to 4 of the schedule writer, and tables that it does not refuse pass. Assumes nothing.
use mathlib.Core.Path.{◌≡◌, refl, ap, ◌∙◌}
use mathlib.Core.Logic.{by_cases, ◌≢◌}
use mathlib.Core.List.{List, []}
use Prim.Native.Nat.{ℕ, ◌≤◌}
use native.Mathlib.Decide.{ℕ_discrete}
use Rattle.tables.specs.Rows.{rows}
use Rattle.rules.specs.Rules.{Keeps, checked}
use Rattle.verdicts.specs.Verdicts.{tell, refused}
use Rattle.verdicts.specs.declared.Told.{Told}
use Rattle.verdicts.specs.declared.Refusal.{Refusal}
use Rattle.rules.proofs.Rules.{passes_zero, kept}
use Rattle.verdicts.proofs.FirstTold.{or_first, or_refused, or_passed}
use Rattle.rooms.specs.Short.{room_of, first_short}
use Rattle.rooms.proofs.Rooms.{more_long, all_long, none_either}
use Rattle.replay.specs.Writer.{writer_rooms, unwritten}

module _ (commands lengths : List ℕ) (room : ℕ) where
  -- the check of tables refused them
  pub unwritten_tables : (r : Refusal) → refused r ≡ checked commands lengths → refused r ≡ unwritten commands lengths room
  unfolding unwritten
  unwritten_tables r e = or_refused r e (first_short (writer_rooms (rows commands) room))

  -- of tables that pass only the room can be refused
  pub unwritten_room : tell 0 0 0 ≡ checked commands lengths → first_short (writer_rooms (rows commands) room) ≡ unwritten commands lengths room
  unfolding unwritten
  unwritten_room e = or_passed e (first_short (writer_rooms (rows commands) room))

-- a room that is not told short is long enough
pub writer_fits : (m room : ℕ) → (first_short (writer_rooms m room)).number ≡ 0 → m ≤ room
writer_fits m room e = (all_long (room_of 2 m room) [] e).0

-- tables that the writer does not refuse pass
pub unwritten_keeps : (commands lengths : List ℕ) (room : ℕ) → (unwritten commands lengths room).number ≡ 0 → Keeps commands lengths
unfolding unwritten
unwritten_keeps commands lengths room e =
    by_cases (ℕ_discrete (checked commands lengths).number 0) (passes_zero commands lengths)
    (λ (n : (checked commands lengths).number ≢ 0). absurd (n (ap (λ (t : Told). t.number) (or_first (checked commands lengths) _ n) ∙ e)))

-- and tables that pass are not refused, with a room that is long enough
pub keeps_written : (commands lengths : List ℕ) (room : ℕ) → Keeps commands lengths → rows commands ≤ room → (unwritten commands lengths room).number ≡ 0
unfolding unwritten
keeps_written commands lengths room K l = rw (kept commands lengths K, more_long (room_of 2 (rows commands) room) [] l) (none_either (λ (t : Told). t.number ≡ 0) refl)
