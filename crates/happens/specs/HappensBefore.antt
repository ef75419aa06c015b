-- Happens-before over numbers offered as generations (R26, R27).
use Rattle.std.specs.Prelude.{Bool, ◌&&◌, List, ℕ, eqb}
use Rattle.tables.specs.Rows.{rows, name, registers, syncs}
use Rattle.relation.specs.Table.{Holds}
use Rattle.schedules.specs.HappensBefore.{Reaches}
use Rattle.programs.specs.Program.{program}

-- each arrive, and each sync, reaches every sync of the same barrier and generation (R26)
abbrev pub meets : List ℕ → (ℕ → ℕ) → ℕ → ℕ → Bool
meets commands g i j = registers commands i && (syncs commands j && (eqb (name commands i) (name commands j) && eqb (g i) (g j)))

-- The relation room then holds, bit by bit, what reaches what (R27).
abbrev pub Reached : List ℕ → List ℕ → (ℕ → ℕ) → List ℕ → List ℕ → Type 0
Reached commands lengths g before after = Holds before after (rows commands) (Reaches (program commands lengths) g)
