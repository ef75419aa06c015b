-- The value of a row from those of the rows before it.
use Rattle.std.proofs.Common.{◌≡◌, ℕ, zero, suc, ◌+◌, ◌-◌, ◌%◌, ◌^◌, ◌<◌, ◌≤◌, Bool, true, false, cond, eqb, ltb, ◌≢◌, List, length, get_or, set, sym, refl, ap, ◌∙◌, subst, ap₂, ⊎_elim, arith, length-set, get_or-set_other, get_or-set_same, ltb-true, le-ltb, lt-ltb, ne_eqb}
use lib.ListN.{replicate, length-replicate}
use mathlib.Core.Logic.{by_cases, ◌⊎◌, inl, inr}
use native.Mathlib.Decide.{ℕ_discrete}
use Rattle.relation.proofs.Truth.{split}
use Rattle.warps.specs.Language.{Expr, literal, cell, lane, plus, minus, less, Mem, eval}
use Rattle.kernels.specs.Limits.{most_expressions}
use Rattle.std.specs.Prelude.{Option, Some, None}
use mir.Val.{bool_byte}
use Rattle.std.specs.Option.{unwrap_or}
use Rattle.kernels.specs.declared.kernel.ExpressionKind.{ExpressionKind}
use Rattle.kernels.specs.declared.kernel.ExpressionKind.TheVariants.{Number, Cell, Lane, Sum, Difference, Less}
use Rattle.kernels.specs.Rows.{expr_kind, expr_x, expr_y, expression_number, expression_kind}
use Rattle.kernels.proofs.Numbers.{expression_is, no_expression}
use Rattle.values.specs.Expressions.{expr_by, expr_at, expression}
use Rattle.values.specs.Needs.{value_by, SameValue, row_by}

eval_by : (k x : ℕ) (p q : Expr) (t : ℕ) (μ : Mem) → eval (expr_by k x p q) t μ ≡ value_by k x (eval p t μ) (eval q t μ) (get_or μ x 0) t
unfolding eval
eval_by k x p q t μ = go (eqb k 0) (eqb k 1) (eqb k 2) (eqb k 3) (eqb k 4)
  where
    go : (b₀ b₁ b₂ b₃ b₄ : Bool)
        → eval (cond b₀ (literal x) (cond b₁ (cell x) (cond b₂ lane (cond b₃ (plus p q) (cond b₄ (minus p q) (less p q)))))) t μ
        ≡ cond b₀ x (cond b₁ (get_or μ x 0) (cond b₂ t (cond b₃ ((eval p t μ + eval q t μ) % 2 ^ 32) (cond b₄ ((eval p t μ + 2 ^ 32 - eval q t μ) % 2 ^ 32) (cond (ltb (eval p t μ) (eval q t μ)) 1 0)))))
    go true b₁ b₂ b₃ b₄ = refl
    go false true b₂ b₃ b₄ = refl
    go false false true b₃ b₄ = refl
    go false false false true b₄ = refl
    go false false false false true = refl
    go false false false false false = refl

module _ (e : List ℕ) where
  -- levels that are deep enough make no difference
  steady : (f g i : ℕ) → i < f → i < g → expr_at e f i ≡ expr_at e g i
  unfolding expr_at
  steady zero g i l m = absurd (omega arith)
  steady (suc f) zero i l m = absurd (omega arith)
  steady (suc f) (suc g) i l m = ap₂ (expr_by (expr_kind e i) (expr_x e i)) (earlier (λ j h. steady f g j (omega arith) (omega arith)) (expr_x e i)) (earlier (λ j h. steady f g j (omega arith) (omega arith)) (expr_y e i))
    where
      earlier : ((j : ℕ) → j < i → expr_at e f j ≡ expr_at e g j) → (j : ℕ) → ◌≡◌ {A = Expr} (cond (ltb j i) (expr_at e f j) (literal 0)) (cond (ltb j i) (expr_at e g j) (literal 0))
      earlier ih j = ⊎_elim (λ (b : ltb j i ≡ true). rw b (ih j (ltb-true j i b))) (λ (b : ltb j i ≡ false). rw b) (split (ltb j i))

  -- a row's value from those of the rows before it
  pub value_step : (i t : ℕ) (μ : Mem) (v : ℕ → ℕ) → ((j : ℕ) → j < i → v j ≡ eval (expr_at e (suc j) j) t μ)
      → value_by (expr_kind e i) (expr_x e i) (cond (ltb (expr_x e i) i) (v (expr_x e i)) 0) (cond (ltb (expr_y e i) i) (v (expr_y e i)) 0) (get_or μ (expr_x e i) 0) t ≡ eval (expr_at e (suc i) i) t μ
  unfolding expr_at eval
  value_step i t μ v h =
      ap₂ (λ (a b : ℕ). value_by (expr_kind e i) (expr_x e i) a b (get_or μ (expr_x e i) 0) t) (operand (expr_x e i)) (operand (expr_y e i))
      ∙ sym (eval_by (expr_kind e i) (expr_x e i) (cond (ltb (expr_x e i) i) (expr_at e i (expr_x e i)) (literal 0)) (cond (ltb (expr_y e i) i) (expr_at e i (expr_y e i)) (literal 0)) t μ)
    where
      operand : (j : ℕ) → cond (ltb j i) (v j) 0 ≡ eval (cond (ltb j i) (expr_at e i j) (literal 0)) t μ
      operand j =
          ⊎_elim (λ (b : ltb j i ≡ true). let l : j < i = ltb-true j i b in rw b (h j l ∙ ap (λ (z : Expr). eval z t μ) (steady (suc j) i j (omega arith) l)))
          (λ (b : ltb j i ≡ false). rw b) (split (ltb j i))

  -- the rows below i have their values
  pub record Filled (t : ℕ) (μ : Mem) (n : ℕ) (v : List ℕ) (i : ℕ) : Type 0 where
    pub long : length v ≡ n
    pub past : (j : ℕ) → j < i → get_or v j 0 ≡ eval (expr_at e (suc j) j) t μ

  pub filled_none : (t : ℕ) (μ : Mem) (n : ℕ) → Filled t μ n (replicate n 0) 0
  filled_none t μ n = record { long = length-replicate n 0; past = λ j h. absurd (omega arith) }

  pub filled_more : (t : ℕ) (μ : Mem) (n : ℕ) (v : List ℕ) (i r : ℕ) → Filled t μ n v i → i < n → r ≡ row_by e i t μ v → Filled t μ n (set v i r) (i + 1)
  filled_more t μ n v i r F l q =
      record {
        long = length-set v i r ∙ F.long;
        past =
            λ j m. by_cases (ℕ_discrete j i)
            (λ (o : j ≡ i). subst (λ (j : ℕ). get_or (set v i r) j 0 ≡ eval (expr_at e (suc j) j) t μ) (sym o) (get_or-set_same v i r 0 (omega (arith, F.long)) ∙ q ∙ value_step i t μ (λ j. get_or v j 0) F.past))
            (λ (o : j ≢ i). get_or-set_other v i j r 0 o ∙ F.past j (omega arith));
      }

  pub past_limit : (i t : ℕ) (μ : Mem) → most_expressions ≤ i → 0 ≡ eval (expression e i) t μ
  unfolding eval
  past_limit i t μ h = rw (le-ltb i most_expressions h)

  pub in_limit : (i t : ℕ) (μ : Mem) (r : ℕ) → i < most_expressions → r ≡ eval (expr_at e (suc i) i) t μ → r ≡ eval (expression e i) t μ
  in_limit i t μ r h q = rw (lt-ltb i most_expressions h) q

-- ---- a kind, by its number

-- a number past the kinds is a less-than
past_kinds : (n : ℕ) → 5 < n → SameValue 5 n
past_kinds n l = record { same = λ x a b h t. sym (rw (ne_eqb n 0 (λ q. omega arith), ne_eqb n 1 (λ q. omega arith), ne_eqb n 2 (λ q. omega arith), ne_eqb n 3 (λ q. omega arith), ne_eqb n 4 (λ q. omega arith))) }

pub kind_by : (n : ℕ) (r : Option ExpressionKind) → r ≡ expression_kind n → SameValue (expression_number (unwrap_or r Less)) n
kind_by n None e = past_kinds n (no_expression n (sym e))
kind_by n (Some k) e = let q : n ≡ expression_number k = expression_is n k (sym e) in record { same = λ x a b h t. ap (λ (m : ℕ). value_by m x a b h t) (sym q) }

module _ (k : ExpressionKind) where
  pub is_pair : (k ≡ Sum) ⊎ ((k ≡ Difference) ⊎ (k ≡ Less)) → 3 ≤ expression_number k
  is_pair (inl e) = rw e (omega arith)
  is_pair (inr (inl e)) = rw e (omega arith)
  is_pair (inr (inr e)) = rw e (omega arith)

  module _ (x a b h t : ℕ) where
    pub is_number : k ≡ Number → x ≡ value_by (expression_number k) x a b h t
    is_number e = sym (rw e)

    pub is_cell : k ≡ Cell → h ≡ value_by (expression_number k) x a b h t
    is_cell e = sym (rw e)

    pub is_sum : k ≡ Sum → (r : ℕ) → r ≡ (a + b) % 2 ^ 32 → r ≡ value_by (expression_number k) x a b h t
    is_sum e r q = rw e q

    pub is_difference : k ≡ Difference → (r : ℕ) → r ≡ (a + 2 ^ 32 - b) % 2 ^ 32 → r ≡ value_by (expression_number k) x a b h t
    is_difference e r q = rw e q

-- the last of each sort
pub is_lane : (k : ExpressionKind) (x a b h t : ℕ) → expression_number k < 3 → (k ≡ Number → ⊥) → (k ≡ Cell → ⊥) → t ≡ value_by (expression_number k) x a b h t
is_lane Number x a b h t l n m = absurd (n refl)
is_lane Cell x a b h t l n m = absurd (m refl)
is_lane Lane x a b h t l n m = refl
is_lane Sum x a b h t l n m = absurd (omega arith)
is_lane Difference x a b h t l n m = absurd (omega arith)
is_lane Less x a b h t l n m = absurd (omega arith)

pub is_less : (k : ExpressionKind) (x a b h t : ℕ) → 3 ≤ expression_number k → (k ≡ Sum → ⊥) → (k ≡ Difference → ⊥) → cond (ltb a b) 1 0 ≡ value_by (expression_number k) x a b h t
is_less Number x a b h t l n m = absurd (omega arith)
is_less Cell x a b h t l n m = absurd (omega arith)
is_less Lane x a b h t l n m = absurd (omega arith)
is_less Sum x a b h t l n m = absurd (n refl)
is_less Difference x a b h t l n m = absurd (m refl)
is_less Less x a b h t l n m = refl

pub byte_of : (b : Bool) → bool_byte b ≡ cond b 1 0
byte_of true = refl
byte_of false = refl
