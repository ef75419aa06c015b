-- What the parts ask for and pass on; nothing public speaks of it.
use Rattle.std.specs.Prelude.{List, ℕ}
use Rattle.kernels.specs.Rows.{list_of, kind_of, x_of, y_of, z_of, expr_kind, expr_x, expr_y}
use Rattle.kernels.specs.declared.rows.Statement.{Statement}
use Rattle.kernels.specs.declared.rows.Expression.{Expression}

-- the numbers of row i of the statements
abbrev pub statement_row : List ℕ → (i : ℕ) → Statement
statement_row s i = record { list = list_of s i; kind = kind_of s i; x = x_of s i; y = y_of s i; z = z_of s i }

-- and of row i of the expressions
abbrev pub expression_row : List ℕ → (i : ℕ) → Expression
expression_row e i = record { kind = expr_kind e i; x = expr_x e i; y = expr_y e i }
