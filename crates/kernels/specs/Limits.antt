-- The limits of a kernel's tables (R68). The constants of `Kernel` are held to these numbers.
use Rattle.std.specs.Prelude.{ℕ}

-- at most so many statements (R68)
unfoldable pub most_statements : ℕ
most_statements = 256

-- at most so many expressions (R68)
unfoldable pub most_expressions : ℕ
most_expressions = 256

-- 1 to so many lanes (R68)
unfoldable pub most_lanes : ℕ
most_lanes = 32

-- cells are below this (R68)
unfoldable pub cell_count : ℕ
cell_count = 64
