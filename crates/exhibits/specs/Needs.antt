-- What the parts ask for and pass on; nothing public speaks of it.
use Rattle.std.specs.Prelude.{List, ℕ, ◌≤◌, length}
use Rattle.tables.specs.Rows.{rows}
use Rattle.rules.specs.Rules.{Keeps}

-- tables that pass, with a generation for each command
pub record Offered (commands lengths generations : List ℕ) : Type 0 where
  pub keeps : Keeps commands lengths
  pub fit : rows commands ≤ length generations
