-- Which tables are refused: 17 and then 18, in the order tested, with the place. Numbers that a kind does not use are not looked at (R66, R70, R71).
use Rattle.std.specs.Prelude.{Bool, false, cond, not, ◌&&◌, ◌||◌, List, ℕ, zero, suc, ◌/◌, ◌%◌, eqb, leb, ltb, length, Result, Ok, Err}
use Rattle.tables.specs.Lowest.{lowest}
use Rattle.kernels.specs.declared.kernel.KernelRefusal.{KernelRefusal}
use Rattle.kernels.specs.declared.kernel.KernelRefusal.TheVariants.{Malformed, StrayBreak}
use Rattle.kernels.specs.Limits.{most_statements, most_expressions, most_lanes, cell_count}
use Rattle.kernels.specs.Rows.{statements, list_of, kind_of, x_of, y_of, z_of, assign_kind, if_kind, while_kind, break_kind, call_kind, return_kind, expressions, expr_kind, expr_x, expr_y, cell_expr, sum_expr, less_expr}

-- ---- lists and the rows that have them

-- row i lies in list b
unfoldable pub lies_in : List ℕ → (b i : ℕ) → Bool
lies_in s b i = eqb (list_of s i) b

-- a statement has list b for an arm or a body, by its kind, y and z
abbrev pub has_list : (kind y z b : ℕ) → Bool
has_list kind y z b = (eqb kind if_kind && (eqb y b || eqb z b)) || (eqb kind while_kind && eqb y b)

-- row i has list b for an arm or a body
unfoldable pub has_body : List ℕ → (b i : ℕ) → Bool
has_body s b i = has_list (kind_of s i) (y_of s i) (z_of s i) b

-- row i has it for one, or calls it
unfoldable pub uses : List ℕ → (b i : ℕ) → Bool
uses s b i = has_body s b i || (eqb (kind_of s i) call_kind && eqb (x_of s i) b)

-- row j, another than row i, uses list b
unfoldable pub uses_besides : List ℕ → (i b j : ℕ) → Bool
uses_besides s i b j = not (eqb j i) && uses s b j

-- the first row that has list b for an arm or a body, or the number of rows
abbrev pub owner : List ℕ → (b : ℕ) → ℕ
owner s b = lowest (has_body s b) (statements s)

-- there is such a row
abbrev pub has_owner : List ℕ → (b : ℕ) → Bool
has_owner s b = ltb (owner s b) (statements s)

-- no row lies in list b (R70)
unfoldable pub missing : List ℕ → (b : ℕ) → Bool
missing s b = not (ltb (lowest (lies_in s b) (statements s)) (statements s))

-- some other row than row i uses list b
unfoldable pub is_used_elsewhere : List ℕ → (i b : ℕ) → Bool
is_used_elsewhere s i b = ltb (lowest (uses_besides s i b) (statements s)) (statements s)

-- ---- upwards

-- upwards from list b, by the row that has it for an arm or a body, then by the row that has that row's list, and so on, at most n times: a row that passes is met
unfoldable pub meets_upwards : List ℕ → (p : ℕ → Bool) → (n b : ℕ) → Bool
meets_upwards s p zero b = false
meets_upwards s p (suc n) b = has_owner s b && (p (owner s b) || meets_upwards s p n (list_of s (owner s b)))

-- list b lies inside an arm or a body of row i; where it is the row's own list, the row lies inside itself (R70)
abbrev pub list_inside : List ℕ → (i b : ℕ) → Bool
list_inside s i b = meets_upwards s (eqb i) (statements s) b

-- row j is a while
unfoldable pub is_while : List ℕ → (j : ℕ) → Bool
is_while s j = eqb (kind_of s j) while_kind

-- list b lies in a loop of its own function: a call is no way upwards (R71)
abbrev pub list_in_while : List ℕ → (b : ℕ) → Bool
list_in_while s b = meets_upwards s (is_while s) (statements s) b

-- row i does (R71)
unfoldable pub in_while : List ℕ → (i : ℕ) → Bool
in_while s i = list_in_while s (list_of s i)

-- ---- 17, of a statement in a kernel of so many expressions

-- list b cannot be row i's arm or body: it is the kernel, or missing, or used by another row (R70)
unfoldable pub is_bad_body : List ℕ → (i b : ℕ) → Bool
is_bad_body s i b = eqb b 0 || missing s b || is_used_elsewhere s i b

-- an unknown cell x, or no expression y (R70)
unfoldable pub is_bad_assignment : (count x y : ℕ) → Bool
is_bad_assignment count x y = leb cell_count x || leb count y

-- of row i in list b: no expression x, a body y that cannot be one, or the row inside itself (R70)
unfoldable pub is_bad_while : List ℕ → (count i b x y : ℕ) → Bool
is_bad_while s count i b x y = leb count x || is_bad_body s i y || list_inside s i b

-- the same of an if and its first arm, or both arms one list, or a second arm z that cannot be one (R70)
unfoldable pub is_bad_if : List ℕ → (count i b x y z : ℕ) → Bool
is_bad_if s count i b x y z = is_bad_while s count i b x y || eqb y z || is_bad_body s i z

-- a function that is missing, or is some row's arm or body; the kernel may be called (R70)
unfoldable pub is_bad_call : List ℕ → (x : ℕ) → Bool
is_bad_call s x = missing s x || has_owner s x

-- row i in list b by its kind: a skip, a break and a return are never bad, and past the return no kind is known (R70)
abbrev pub is_bad_by : List ℕ → (count i b kind x y z : ℕ) → Bool
is_bad_by s count i b kind x y z =
    cond (eqb kind assign_kind) (is_bad_assignment count x y)
    (cond (eqb kind if_kind) (is_bad_if s count i b x y z)
    (cond (eqb kind while_kind) (is_bad_while s count i b x y) (cond (eqb kind call_kind) (is_bad_call s x) (ltb return_kind kind))))

-- row i is bad (R70)
unfoldable pub is_bad_statement : List ℕ → (count i : ℕ) → Bool
is_bad_statement s count i = is_bad_by s count i (list_of s i) (kind_of s i) (x_of s i) (y_of s i) (z_of s i)

-- the first bad statement, or the number of statements (R70)
abbrev pub first_bad_statement_of : List ℕ → (count : ℕ) → ℕ
first_bad_statement_of s count = lowest (is_bad_statement s count) (statements s)

-- ---- 17, of an expression

-- an unknown kind, an unknown cell, or an operand that is no earlier row than row i (R70)
unfoldable pub does_expression_fail : (i kind x y : ℕ) → Bool
does_expression_fail i kind x y = ltb less_expr kind || (eqb kind cell_expr && leb cell_count x) || (leb sum_expr kind && (leb i x || leb i y))

-- row i of the expressions is bad (R70)
unfoldable pub bad_expression : List ℕ → (i : ℕ) → Bool
bad_expression e i = does_expression_fail i (expr_kind e i) (expr_x e i) (expr_y e i)

-- some expression is (R70)
abbrev pub has_bad_expression : List ℕ → Bool
has_bad_expression e = ltb (lowest (bad_expression e) (expressions e)) (expressions e)

-- ---- 18

-- a row in list b is a break outside the loops of its own function (R71)
abbrev pub is_stray_by : List ℕ → (b kind : ℕ) → Bool
is_stray_by s b kind = eqb kind break_kind && not (list_in_while s b)

-- row i is one (R71)
unfoldable pub is_stray_break : List ℕ → (i : ℕ) → Bool
is_stray_break s i = is_stray_by s (list_of s i) (kind_of s i)

-- the first such break, or the number of statements (R71)
abbrev pub first_stray_break_of : List ℕ → ℕ
first_stray_break_of s = lowest (is_stray_break s) (statements s)

-- ---- both refusals, in the order tested

-- so many numbers, in rows of so many: the rows are not whole, or too many (R70)
unfoldable pub is_bad_length : (row most numbers : ℕ) → Bool
is_bad_length row most numbers = not (eqb (numbers % row) 0) || ltb most (numbers / row)

-- 17 where no statement is concerned: no lane or too many; statements, then expressions, over the limit; a bad expression (R70)
unfoldable pub are_bad_tables : (s e : List ℕ) (lanes : ℕ) → Bool
are_bad_tables s e lanes =
    eqb lanes 0 || ltb most_lanes lanes || is_bad_length 5 most_statements (length s) || is_bad_length 3 most_expressions (length e) || has_bad_expression e

-- the number of a refusal
abbrev pub refusal_number : KernelRefusal → ℕ
refusal_number (Malformed place) = 17
refusal_number (StrayBreak place) = 18

-- and its place
abbrev pub refusal_place : KernelRefusal → ℕ
refusal_place (Malformed place) = place
refusal_place (StrayBreak place) = place

-- 17 at place 0; 17 at the first bad statement (R70); 18 at the first stray break (R71); or none
unfoldable pub ruling_of : (s e : List ℕ) (lanes : ℕ) → Result (Unit {0}) KernelRefusal
ruling_of s e lanes =
    cond (are_bad_tables s e lanes) (Err (Malformed 0))
    (cond (ltb (first_bad_statement_of s (expressions e)) (statements s)) (Err (Malformed (first_bad_statement_of s (expressions e))))
    (cond (ltb (first_stray_break_of s) (statements s)) (Err (StrayBreak (first_stray_break_of s))) (Ok tt)))
