-- The two tables of a kernel: statements, five numbers a row, and expressions, three numbers a row (R66, R67).
use Rattle.std.specs.Prelude.{cond, List, ℕ, ◌+◌, ◌*◌, ◌/◌, eqb, length, get_or, Option, Some, None}
use Rattle.kernels.specs.declared.kernel.StatementKind.{StatementKind}
use Rattle.kernels.specs.declared.kernel.StatementKind.TheVariants.{Skip, Assign, If, While, Break, Call, Return}
use Rattle.kernels.specs.declared.kernel.ExpressionKind.{ExpressionKind}
use Rattle.kernels.specs.declared.kernel.ExpressionKind.TheVariants.{Number, Cell, Lane, Sum, Difference, Less}

-- how many statements there are
abbrev pub statements : List ℕ → ℕ
statements s = length s / 5

-- five numbers a row: the list that the row lies in, its kind, x, y and z (R66)
abbrev pub list_of : List ℕ → ℕ → ℕ
list_of s i = get_or s (5 * i) 0

abbrev pub kind_of : List ℕ → ℕ → ℕ
kind_of s i = get_or s (5 * i + 1) 0

abbrev pub x_of : List ℕ → ℕ → ℕ
x_of s i = get_or s (5 * i + 2) 0

abbrev pub y_of : List ℕ → ℕ → ℕ
y_of s i = get_or s (5 * i + 3) 0

abbrev pub z_of : List ℕ → ℕ → ℕ
z_of s i = get_or s (5 * i + 4) 0

-- the kinds of a statement (R66): 0 skip
abbrev pub skip_kind : ℕ
skip_kind = 0

-- 1 assignment: cell x becomes the value of expression y (R66)
abbrev pub assign_kind : ℕ
assign_kind = 1

-- 2 if: by expression x, list y or list z (R66)
abbrev pub if_kind : ℕ
if_kind = 2

-- 3 while: list y, as long as expression x holds (R66)
abbrev pub while_kind : ℕ
while_kind = 3

-- 4 break (R66)
abbrev pub break_kind : ℕ
break_kind = 4

-- 5 call: the function is list x (R66)
abbrev pub call_kind : ℕ
call_kind = 5

-- 6 return (R66)
abbrev pub return_kind : ℕ
return_kind = 6

-- the kind that a number stands for (R66)
unfoldable pub statement_kind : ℕ → Option StatementKind
statement_kind n =
    cond (eqb n skip_kind) (Some Skip)
    (cond (eqb n assign_kind) (Some Assign)
    (cond (eqb n if_kind) (Some If)
    (cond (eqb n while_kind) (Some While) (cond (eqb n break_kind) (Some Break) (cond (eqb n call_kind) (Some Call) (cond (eqb n return_kind) (Some Return) None))))))

-- the number of a kind (R66)
abbrev pub statement_number : StatementKind → ℕ
statement_number Skip = skip_kind
statement_number Assign = assign_kind
statement_number If = if_kind
statement_number While = while_kind
statement_number Break = break_kind
statement_number Call = call_kind
statement_number Return = return_kind

-- how many expressions there are
abbrev pub expressions : List ℕ → ℕ
expressions e = length e / 3

-- three numbers a row: kind, x and y (R67)
abbrev pub expr_kind : List ℕ → ℕ → ℕ
expr_kind e i = get_or e (3 * i) 0

abbrev pub expr_x : List ℕ → ℕ → ℕ
expr_x e i = get_or e (3 * i + 1) 0

abbrev pub expr_y : List ℕ → ℕ → ℕ
expr_y e i = get_or e (3 * i + 2) 0

-- the kinds of an expression (R67): 0 the number x
abbrev pub number_expr : ℕ
number_expr = 0

-- 1 cell x (R67)
abbrev pub cell_expr : ℕ
cell_expr = 1

-- 2 the lane number (R67)
abbrev pub lane_expr : ℕ
lane_expr = 2

-- 3 the sum, 4 the difference and 5 the unsigned less-than of the values of rows x and y (R67)
abbrev pub sum_expr : ℕ
sum_expr = 3

abbrev pub difference_expr : ℕ
difference_expr = 4

abbrev pub less_expr : ℕ
less_expr = 5

-- the kind that a number stands for (R67)
unfoldable pub expression_kind : ℕ → Option ExpressionKind
expression_kind n =
    cond (eqb n number_expr) (Some Number)
    (cond (eqb n cell_expr) (Some Cell)
    (cond (eqb n lane_expr) (Some Lane) (cond (eqb n sum_expr) (Some Sum) (cond (eqb n difference_expr) (Some Difference) (cond (eqb n less_expr) (Some Less) None)))))

-- the number of a kind (R67)
abbrev pub expression_number : ExpressionKind → ℕ
expression_number Number = number_expr
expression_number Cell = cell_expr
expression_number Lane = lane_expr
expression_number Sum = sum_expr
expression_number Difference = difference_expr
expression_number Less = less_expr
