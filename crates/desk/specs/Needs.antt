-- What the parts of a text review ask of rooms, and leave in them.
use Rattle.std.specs.Prelude.{◌≡◌, true, List, ℕ, ◌≤◌, length, take}
use Rattle.tables.specs.Limits.{most_rows}
use Rattle.tables.specs.Rows.{rows}
use Rattle.tables.specs.Over.{over}
use Rattle.verdicts.specs.Numbers.{has_pairs}
use Rattle.relation.specs.Table.{words}
use Rattle.notation.specs.Reading.{row_numbers, thread_lengths}
use Rattle.steps.specs.Going.{played}
use Rattle.replay.specs.Writer.{schedule}
use Rattle.happens.specs.HappensBefore.{Reached}
use Rattle.review.specs.Judge.{generations_by}
use Rattle.report.specs.declared.Conclusion.{Conclusion}
use Rattle.desk.specs.declared.conclusion.Concluded.{Concluded}
use Rattle.desk.specs.Conclusion.{read_as, of_tables, of_text}

-- rooms for what a review of the longest tables fills
pub record FullRooms (relation generations : List ℕ) : Type 0 where
  pub wide : length relation ≡ words most_rows
  pub high : length generations ≡ most_rows

-- The rooms hold happens-before and the generations of the writer's schedule.
pub record FilledRooms (commands lengths relation generations relation' generations' : List ℕ) : Type 0 where
  pub reached : Reached commands lengths (Rattle.review.specs.Judge.generations_by commands lengths (schedule commands lengths)) relation relation'
  pub numbers : generations' ≡ over (take (rows commands) (played commands lengths (schedule commands lengths)).generations) generations

-- two tables are judged; for 10 and 11 the rooms are filled
pub record JudgesTables (commands lengths relation generations : List ℕ) (r : Conclusion) (relation' generations' : List ℕ) : Type 0 where
  pub concludes : r ≡ of_tables commands lengths
  pub holds : has_pairs r.told.number ≡ true → FilledRooms commands lengths relation generations relation' generations'

-- a text is judged; where it is read, its tables stand first in their rooms
pub record Concludes (text relation generations : List ℕ) (r : Concluded) (commands' lengths' relation' generations' : List ℕ) : Type 0 where
  pub concludes : r.conclusion ≡ of_text text
  pub numbers_fit : r.numbers ≤ length commands'
  pub threads_fit : r.threads ≤ length lengths'
  pub numbers : (read_as text).number ≡ 0 → take r.numbers commands' ≡ row_numbers text
  pub threads : (read_as text).number ≡ 0 → take r.threads lengths' ≡ thread_lengths text
  pub holds : (read_as text).number ≡ 0 → has_pairs r.conclusion.told.number ≡ true → FilledRooms (row_numbers text) (thread_lengths text) relation generations relation' generations'
