-- `expression_fails` meets its contract, by the row's kind. Assumes nothing.
use mathlib.Core.Path.{◌≡◌, sym, ap, ◌∙◌}
use mathlib.Core.Logic.{◌⊎◌, inl, inr}
use mathlib.Core.Bool.{false, ◌||◌, or-false}
use Prim.Native.Nat.{ℕ}
use lib.Dec.{leb}
use borrow.Author.Tests.{lt-ltb}
use Rattle.kernels.specs.declared.kernel.ExpressionKind.{ExpressionKind}
use Rattle.kernels.specs.declared.kernel.ExpressionKind.TheVariants.{Number, Lane, Sum, Difference, Less}
use Rattle.kernels.specs.Limits.{cell_count}
use Rattle.kernels.specs.Rows.{expression_number}
use Rattle.kernels.specs.Refusals.{does_expression_fail}
use Rattle.kernels.proofs.Numbers.{expression_is, no_expression}
use Rattle.kernels.proofs.expressions.expression_fails.Goals as goal

module _ (i n x y : ℕ) (k : ExpressionKind) (q : n ≡ expression_number k) where
  leaf : (k ≡ Number) ⊎ (k ≡ Lane) → false ≡ does_expression_fail i n x y
  unfolding does_expression_fail
  leaf (inl e) = sym (rw (q ∙ ap expression_number e))
  leaf (inr e) = sym (rw (q ∙ ap expression_number e))

  pair : (k ≡ Sum) ⊎ ((k ≡ Difference) ⊎ (k ≡ Less)) → leb i x || leb i y ≡ does_expression_fail i n x y
  unfolding does_expression_fail
  pair (inl e) = sym (rw (q ∙ ap expression_number e))
  pair (inr (inl e)) = sym (rw (q ∙ ap expression_number e))
  pair (inr (inr e)) = sym (rw (q ∙ ap expression_number e))

pub returns-in_default : goal.returns-in_default
unfolding does_expression_fail
returns-in_default c = sym (rw (lt-ltb 5 _ (no_expression _ (sym c.of.ensures ∙ c.in_default.is))))

pub returns-in-Number : goal.returns-in-Number
returns-in-Number c = leaf _ _ _ _ _ (expression_is _ _ (sym c.in-Some.ensures)) c.in-Number.is

pub returns-in-Cell : goal.returns-in-Cell
unfolding does_expression_fail cell_count
returns-in-Cell c =
    let q : c.args.row.kind ≡ 1 = expression_is _ _ (sym c.in-Some.ensures) ∙ ap expression_number c.in-Cell.is in
    sym (rw q (or-false _))

pub returns-in-Sum : goal.returns-in-Sum
returns-in-Sum c = pair _ _ _ _ _ (expression_is _ _ (sym c.in-Some.ensures)) c.in-Sum.is
