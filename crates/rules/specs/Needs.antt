-- What the parts pass on; nothing public speaks of it.
use Rattle.std.specs.Prelude.{Bool, not, List, ℕ, Option, get_or, position}
use Rattle.std.specs.Simd.{first_chunks}
use Rattle.tables.specs.Rows.{rows}
use Rattle.rules.specs.Rules.{does_row_keep}

-- a row of three numbers breaks the rules
abbrev pub is_broken : (threads : ℕ) → List ℕ → Bool
is_broken threads row = not (does_row_keep threads (get_or row 0 0) (get_or row 1 0) (get_or row 2 0))

-- the first row that does
abbrev pub first_broken : List ℕ → (threads : ℕ) → Option ℕ
first_broken commands threads = position (is_broken threads) (first_chunks 3 (rows commands) commands)
