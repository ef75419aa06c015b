-- A room whose first places are overwritten (R25, R40, R51, R55).
use Rattle.std.specs.Prelude.{List, ◌++◌, ℕ, length, drop}

-- the new numbers stand first, and the rest is kept (R25, R40, R51, R55)
abbrev pub over : List ℕ → List ℕ → List ℕ
over new old = new ++ drop (length new) old
