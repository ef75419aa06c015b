-- What the doors promise: the judge of a schedule (R81), and the two schedule writers (D1, R24, R25, R62).
use Rattle.std.specs.Prelude.{◌≡◌, List, ℕ, Result, IfOk, OnOk, OnErr, length}
use Rattle.tables.specs.Rows.{rows}
use Rattle.verdicts.specs.Verdicts.{result_told, numbered}
use Rattle.verdicts.specs.declared.Refusal.{Refusal}
use Rattle.relation.specs.Table.{related}
use Rattle.steps.specs.Going.{played}
use Rattle.steps.specs.Ending.{judged}
use Rattle.steps.specs.Writing.{FilledBy}
use Rattle.replay.specs.declared.offered.Judged.{Judged}
use Rattle.replay.specs.Writer.{schedule, apart_schedule, unwritten}
use Rattle.replay.specs.Schedules.{Complete}

-- The judge: 5 to 9, or 0; and the generations of the commands that ran (R81).
pub record Replays (commands lengths schedule : List ℕ) (r : Judged) : Type 0 where
  pub verdict : numbered r.verdict ≡ judged lengths (played commands lengths schedule)
  pub generations : r.generations ≡ (played commands lengths schedule).generations

-- A schedule writer: refusals 1 to 4 and the room as it was, or the schedule, which is legal and complete, and its length (D1, R25).
pub record WritesBy (σ commands lengths before after : List ℕ) (r : Result ℕ Refusal) : Type 0 where
  pub refusal : result_told r ≡ unwritten commands lengths (length before)
  pub refused : OnErr r (after ≡ before)
  pub wrote : IfOk r (FilledBy σ before after)
  pub complete : OnOk r (Complete commands lengths σ)

-- the lowest allowed thread steps (R24, R25)
abbrev pub WritesSchedule : List ℕ → List ℕ → List ℕ → List ℕ → Result ℕ Refusal → Type 0
WritesSchedule commands lengths = WritesBy (schedule commands lengths) commands lengths

-- d and what c does not reach go first (R25, R62)
abbrev pub WritesApart : List ℕ → List ℕ → List ℕ → (c d : ℕ) → List ℕ → List ℕ → Result ℕ Refusal → Type 0
WritesApart commands lengths relation c d = WritesBy (apart_schedule commands lengths (related relation (rows commands)) c d) commands lengths
