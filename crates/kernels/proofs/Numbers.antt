-- A number that stands for a kind is that kind's number. Assumes nothing.
use mathlib.Core.Path.{◌≡◌, refl, ap, sym, ◌∙◌}
use mathlib.Core.Logic.{by_cases, ◌≢◌}
use mathlib.Core.Bool.{cond}
use Prim.Native.Nat.{ℕ, ◌<◌}
use native.Mathlib.Decide.{ℕ_discrete}
use native.Mathlib.Omega.{arith}
use borrow.Author.Tests.{eq-eqb, ne_eqb}
use lib.Dec.{eqb}
use Rattle.std.specs.Prelude.{Option, Some, None}
use Rattle.kernels.specs.declared.kernel.StatementKind.{StatementKind}
use Rattle.kernels.specs.declared.kernel.StatementKind.TheVariants.{Skip, Assign, If, While, Break, Call, Return}
use Rattle.kernels.specs.declared.kernel.ExpressionKind.{ExpressionKind}
use Rattle.kernels.specs.declared.kernel.ExpressionKind.TheVariants.{Number, Cell, Lane, Sum, Difference, Less}
use Rattle.kernels.specs.Rows.{statement_number, statement_kind, expression_number, expression_kind}

-- a chain of tests: where none of its numbers is met, the rest is asked
module _ {X : Type 0} (f : X → ℕ) (n : ℕ) where
  Right : Option X → Type 0
  Right o = (k : X) → o ≡ Some k → n ≡ f k

  one : (j : ℕ) (x : X) (rest : Option X) → f x ≡ j → Right rest → Right (cond (eqb n j) (Some x) rest)
  unfolding Right
  one j x rest e g k q =
      by_cases (ℕ_discrete n j)
      (λ (h : n ≡ j). let r : Some x ≡ Some k = sym (rw (eq-eqb n j h)) ∙ q in let s : x ≡ k = cc in h ∙ sym e ∙ ap f s)
      (λ (h : n ≢ j). g k (sym (rw (ne_eqb n j h)) ∙ q))

  past : (j : ℕ) (x : X) (rest : Option X) → cond (eqb n j) (Some x) rest ≡ None → (n ≢ j) × (rest ≡ None)
  past j x rest q =
      by_cases (ℕ_discrete n j) (λ (h : n ≡ j). let r : Some x ≡ None = sym (rw (eq-eqb n j h)) ∙ q in absurd (let z : ◌≡◌ {A = ℕ} 0 1 = cc in omega arith))
      (λ (h : n ≢ j). (h, sym (rw (ne_eqb n j h)) ∙ q))

  none : Right None
  unfolding Right
  none k q = absurd (let z : ◌≡◌ {A = ℕ} 0 1 = cc in omega arith)

pub kind_is : (n : ℕ) (k : StatementKind) → statement_kind n ≡ Some k → n ≡ statement_number k
unfolding statement_kind Right
kind_is n =
    one statement_number n 0 Skip _ refl (one statement_number n 1 Assign _ refl (one statement_number n 2 If _ refl (one statement_number n 3 While _ refl (one statement_number n 4 Break _ refl (one statement_number n 5 Call _ refl (one statement_number n 6 Return _ refl (none statement_number n)))))))

pub no_statement : (n : ℕ) → statement_kind n ≡ None → 6 < n
unfolding statement_kind
no_statement n e =
    let (n₀, e₁) = past statement_number n 0 Skip _ e in
    let (n₁, e₂) = past statement_number n 1 Assign _ e₁ in
    let (n₂, e₃) = past statement_number n 2 If _ e₂ in
    let (n₃, e₄) = past statement_number n 3 While _ e₃ in
    let (n₄, e₅) = past statement_number n 4 Break _ e₄ in
    let (n₅, e₆) = past statement_number n 5 Call _ e₅ in
    let (n₆, e₇) = past statement_number n 6 Return _ e₆ in
    omega arith

pub expression_is : (n : ℕ) (k : ExpressionKind) → expression_kind n ≡ Some k → n ≡ expression_number k
unfolding expression_kind Right
expression_is n =
    one expression_number n 0 Number _ refl (one expression_number n 1 Cell _ refl (one expression_number n 2 Lane _ refl (one expression_number n 3 Sum _ refl (one expression_number n 4 Difference _ refl (one expression_number n 5 Less _ refl (none expression_number n))))))

pub no_expression : (n : ℕ) → expression_kind n ≡ None → 5 < n
unfolding expression_kind
no_expression n e =
    let (n₀, e₁) = past expression_number n 0 Number _ e in
    let (n₁, e₂) = past expression_number n 1 Cell _ e₁ in
    let (n₂, e₃) = past expression_number n 2 Lane _ e₂ in
    let (n₃, e₄) = past expression_number n 3 Sum _ e₃ in
    let (n₄, e₅) = past expression_number n 4 Difference _ e₄ in
    let (n₅, e₆) = past expression_number n 5 Less _ e₅ in
    omega arith
