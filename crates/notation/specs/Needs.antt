-- What the parts ask for and pass on; nothing public speaks of it.
use Rattle.std.specs.Prelude.{List, ℕ, ◌≤◌, length}
use Rattle.tables.specs.Limits.{most_rows}
use Rattle.notation.specs.Reading.{read_of, row_numbers, thread_lengths}

-- what the writing pass asks: few rows, and rooms that hold them and the threads' lengths
pub record Rooms (text commands lengths : List ℕ) : Type 0 where
  pub few_rows : length (read_of text).rows ≤ most_rows
  pub rows : length (row_numbers text) ≤ length commands
  pub lens : length (thread_lengths text) ≤ length lengths
