-- The language of document 001, 3.1: expressions, statements, statement lists. A body of an `if` or a `while`, and a function, is named by the number of its list (R66, R67).
use Rattle.std.specs.Prelude.{Bool, not, cond, List, ℕ, ◌+◌, ◌-◌, ◌%◌, ◌^◌, eqb, ltb, get_or}

-- e: a number, a cell, the number of the lane; sum, difference and less-than of two expressions (R67)
pub data Expr : Type 0 where
  literal : ℕ → Expr
  cell : ℕ → Expr
  lane : Expr
  plus : Expr → Expr → Expr
  minus : Expr → Expr → Expr
  less : Expr → Expr → Expr

-- s: `again` is the underlined while, a loop that has begun, and `invoke` is f () (R66)
pub data Stm : Type 0 where
  skip : Stm
  assign : (c : ℕ) → Expr → Stm
  branch : Expr → (S₁ S₂ : ℕ) → Stm
  while : Expr → (S : ℕ) → Stm
  again : Expr → (S : ℕ) → Stm
  break : Stm
  invoke : (f : ℕ) → Stm
  return : Stm

-- φ, and the bodies of loops and branches: what each list holds
abbrev pub Bodies : Type 0
Bodies = ℕ → List Stm

-- μ: all cells are shared
abbrev pub Mem : Type 0
Mem = List ℕ

-- ℰ⟦e⟧ for a lane, over 32 bits: sum and difference wrap, and less-than is 1 or 0 (R67)
unfoldable pub eval : Expr → (t : ℕ) → Mem → ℕ
eval (literal n) t μ = n
eval (cell c) t μ = get_or μ c 0
eval lane t μ = t
eval (plus a b) t μ = (eval a t μ + eval b t μ) % 2 ^ 32
eval (minus a b) t μ = (eval a t μ + 2 ^ 32 - eval b t μ) % 2 ^ 32
eval (less a b) t μ = cond (ltb (eval a t μ) (eval b t μ)) 1 0

-- ℰ⟦e⟧ ≠ 0
unfoldable pub test : Expr → (t : ℕ) → Mem → Bool
test e t μ = not (eqb (eval e t μ) 0)
