-- What the writing of evidence asks for, and leaves.
use Rattle.std.specs.Prelude.{◌≡◌, List, ◌++◌, ℕ, ◌+◌, ◌*◌, ◌≤◌, length, take, drop}
use Rattle.tables.specs.Rows.{rows}
use Rattle.rules.specs.Rules.{Keeps}
use Rattle.relation.specs.Table.{related}
use Rattle.sheet.specs.declared.Pair.{Pair}
use Rattle.sheet.specs.declared.Sheet.{Sheet}
use Rattle.sheet.specs.Sheet.{most_kept}
use Rattle.replay.specs.Writer.{apart_schedule}
use Rattle.evidence.specs.Evidence.{both_ways, evidence_of, evidence_room}

-- over what a lent relation room says reaches what
module _ (commands lengths relation : List ℕ) where
  abbrev pub apart_in : (c d : ℕ) → List ℕ
  apart_in = apart_schedule commands lengths (related relation (rows commands))

  abbrev pub both_ways_in : List Pair → List ℕ
  both_ways_in = both_ways commands lengths (related relation (rows commands))

  abbrev pub evidence_in : ℕ → Sheet → List ℕ
  evidence_in = evidence_of commands lengths (related relation (rows commands))

-- numbers stand in a room from `at` on, and end before r; the rest is kept
pub record PutsAt (σ before after : List ℕ) (at r : ℕ) : Type 0 where
  pub ends : r ≡ at + length σ
  pub room : after ≡ take at before ++ (σ ++ drop r before)

-- there is room for a schedule from `at` on
pub record FitsAt (commands lengths room : List ℕ) (at : ℕ) : Type 0 where
  pub keeps : Keeps commands lengths
  pub fits : at + rows commands ≤ length room

-- there is room for two schedules of each of some pairs
pub record FitsAll (commands lengths : List ℕ) (pairs : List Pair) (room : List ℕ) : Type 0 where
  pub keeps : Keeps commands lengths
  pub fits : length pairs * rows commands * 2 ≤ length room

-- there is room for two schedules of as many pairs as a sheet keeps
pub record Showable (commands lengths : List ℕ) (s : Sheet) (room : List ℕ) : Type 0 where
  pub keeps : Keeps commands lengths
  pub fits : evidence_room (rows commands) ≤ length room
  pub long : length s.pairs ≡ most_kept
