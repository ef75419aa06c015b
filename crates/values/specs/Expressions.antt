-- What the rows of expressions denote, and the lanes for which they are not 0 (R67, R69, R83).
use Rattle.std.specs.Prelude.{ℕ, zero, suc, ◌*◌, ◌^◌, cond, ◌&&◌, List, ◌==◌, bit_or, nat_lt}
use Rattle.relation.specs.Bits.{bit_of}
use Rattle.warps.specs.Language.{Expr, literal, cell, lane, plus, minus, less, Mem, test}
use Rattle.kernels.specs.Limits.{most_expressions}
use Rattle.kernels.specs.Rows.{expr_kind, expr_x, expr_y, number_expr, cell_expr, lane_expr, sum_expr, difference_expr}

-- by its kind (R67); what is none of the first five is a less-than (R83)
abbrev pub expr_by : (kind x : ℕ) → Expr → Expr → Expr
expr_by kind x a b =
    cond (kind == number_expr) (literal x)
    (cond (kind == cell_expr) (cell x) (cond (kind == lane_expr) lane (cond (kind == sum_expr) (plus a b) (cond (kind == difference_expr) (minus a b) (less a b)))))

module _ (e : List ℕ) where
  -- row i, its operands at most f levels deep (R67); an operand that is no earlier row is 0 (R83)
  unfoldable pub expr_at : (f i : ℕ) → Expr
  expr_at zero i = literal 0
  expr_at (suc f) i =
      expr_by (expr_kind e i) (expr_x e i) (cond (nat_lt (expr_x e i) i) (expr_at f (expr_x e i)) (literal 0)) (cond (nat_lt (expr_y e i) i) (expr_at f (expr_y e i)) (literal 0))

  -- operands are earlier rows, so that row i is no more than i levels deep (R67); a row past the limit is 0 (R83)
  abbrev pub expression : ℕ → Expr
  expression i = cond (nat_lt i most_expressions) (expr_at (suc i) i) (literal 0)

-- act, as a word: of the lanes below n, those in a mask for which e is not 0 (R69)
unfoldable pub acting : (mask : ℕ) → Expr → Mem → (n : ℕ) → ℕ
acting mask e μ zero = 0
acting mask e μ (suc n) = cond (bit_of mask n && test e n μ) (bit_or (acting mask e μ n) (1 * 2 ^ n)) (acting mask e μ n)
