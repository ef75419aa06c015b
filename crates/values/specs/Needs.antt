-- What the parts ask for and pass on; nothing public speaks of it.
use Rattle.std.specs.Prelude.{◌≡◌, ℕ, ◌+◌, ◌-◌, ◌*◌, ◌%◌, ◌^◌, ◌<◌, ◌≤◌, cond, List, length, ◌==◌, nat_lt, slice_index}
use Rattle.warps.specs.Language.{Mem, eval}
use Rattle.kernels.specs.Limits.{most_expressions}
use Rattle.kernels.specs.Rows.{expr_kind, expr_x, expr_y, number_expr, cell_expr, lane_expr, sum_expr, difference_expr}
use Rattle.values.specs.Expressions.{expression}

-- the value of a row, from those of its operands and of cell x
abbrev pub value_by : (kind x a b held t : ℕ) → ℕ
value_by kind x a b held t =
    cond (kind == number_expr) x
    (cond (kind == cell_expr) held
    (cond (kind == lane_expr) t (cond (kind == sum_expr) ((a + b) % 2 ^ 32) (cond (kind == difference_expr) ((a + 2 ^ 32 - b) % 2 ^ 32) (cond (nat_lt a b) 1 0)))))

-- two numbers stand for one kind
pub record SameValue (k l : ℕ) : Type 0 where
  pub same : (x a b held t : ℕ) → value_by k x a b held t ≡ value_by l x a b held t

-- for one lane, v has the values of earlier rows; an operand that is none of them is 0
abbrev pub row_by : (e : List ℕ) (i t : ℕ) → Mem → (v : List ℕ) → ℕ
row_by e i t μ v =
    value_by (expr_kind e i) (expr_x e i) (cond (nat_lt (expr_x e i) i) (slice_index v (expr_x e i)) 0) (cond (nat_lt (expr_y e i) i) (slice_index v (expr_y e i)) 0) (slice_index μ (expr_x e i)) t

-- ---- the first `count` lanes at once: in a room the values of row i stand from i * count on, a number a lane

-- where the values of operand x of row i begin: those of an earlier row, or else of row i itself
abbrev pub strip_of : (count x i : ℕ) → ℕ
strip_of count x i = cond (nat_lt x i) x i * count

-- an operand's values, from a on, lie before the row's own, or are where these go
abbrev pub Ahead : (a to count : ℕ) → Type 0
Ahead a to count = (a ≤ to) × (a < to → a + count ≤ to)

-- what a row with operands asks for
pub record Strips (v : List ℕ) (a b to count : ℕ) : Type 0 where
  pub left : Ahead a to count
  pub right : Ahead b to count
  pub inside : to + count ≤ length v

-- what a row leaves: its values, and all else as it was
pub record StripDone (kind x held a b to count : ℕ) (v v' : List ℕ) : Type 0 where
  pub long : length v' ≡ length v
  pub own : (k : ℕ) → k < count → slice_index v' (to + k) ≡ value_by kind x (slice_index v (a + k)) (slice_index v (b + k)) held k
  pub below : (q : ℕ) → q < to → slice_index v' q ≡ slice_index v q
  pub above : (q : ℕ) → to + count ≤ q → slice_index v' q ≡ slice_index v q

-- there is room for row i and those before it
pub record CanFill (v : List ℕ) (i count : ℕ) : Type 0 where
  pub room : (i + 1) * count ≤ length v
  pub few : i < most_expressions
  pub narrow : count ≤ 32

-- what row i leaves, by its numbers in the table
abbrev pub RowDone : (e : List ℕ) (i count : ℕ) → Mem → (v v' : List ℕ) → Type 0
RowDone e i count μ v v' = StripDone (expr_kind e i) (expr_x e i) (slice_index μ (expr_x e i)) (strip_of count (expr_x e i) i) (strip_of count (expr_y e i) i) (i * count) count v v'

-- nothing stands in a room
abbrev pub Zeroed : List ℕ → Type 0
Zeroed v = (q : ℕ) → slice_index v q ≡ 0

-- the values of row `root` stand there
abbrev pub Valued : (e : List ℕ) (root count : ℕ) → Mem → List ℕ → Type 0
Valued e root count μ v = (k : ℕ) → k < count → slice_index v (root * count + k) ≡ eval (expression e root) k μ
