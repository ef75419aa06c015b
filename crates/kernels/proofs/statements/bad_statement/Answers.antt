-- `bad_statement` meets its contract, by the row's kind. Assumes nothing.
use mathlib.Core.Path.{◌≡◌, sym, ap, ◌∙◌}
use mathlib.Core.Logic.{◌⊎◌, inl, inr}
use mathlib.Core.Bool.{true, false}
use mathlib.Core.List.{List}
use Prim.Native.Nat.{ℕ, ◌<◌}
use native.Mathlib.Omega.{arith}
use borrow.Author.Tests.{lt-ltb, ne_eqb}
use Rattle.kernels.specs.declared.kernel.StatementKind.{StatementKind}
use Rattle.kernels.specs.declared.kernel.StatementKind.TheVariants.{Skip, Assign, If, While, Break, Call, Return}
use Rattle.kernels.specs.Rows.{statement_number}
use Rattle.kernels.specs.Refusals.{is_bad_assignment, is_bad_if, is_bad_while, is_bad_call, is_bad_by}
use Rattle.kernels.proofs.Numbers.{kind_is, no_statement}
use Rattle.kernels.proofs.statements.bad_statement.Goals as goal

module _ (s : List ℕ) (count i b n x y z : ℕ) where
  unknown : 6 < n → true ≡ is_bad_by s count i b n x y z
  unknown l = sym (rw (ne_eqb n 1 (λ q. omega arith), ne_eqb n 2 (λ q. omega arith), ne_eqb n 3 (λ q. omega arith), ne_eqb n 5 (λ q. omega arith), lt-ltb 6 n l))

  module _ (k : StatementKind) (q : n ≡ statement_number k) where
    idle : (k ≡ Skip) ⊎ ((k ≡ Break) ⊎ (k ≡ Return)) → false ≡ is_bad_by s count i b n x y z
    idle (inl e) = sym (rw (q ∙ ap statement_number e))
    idle (inr (inl e)) = sym (rw (q ∙ ap statement_number e))
    idle (inr (inr e)) = sym (rw (q ∙ ap statement_number e))

    assigns : k ≡ Assign → is_bad_assignment count x y ≡ is_bad_by s count i b n x y z
    assigns e = sym (rw (q ∙ ap statement_number e))

    branches : k ≡ If → is_bad_if s count i b x y z ≡ is_bad_by s count i b n x y z
    branches e = sym (rw (q ∙ ap statement_number e))

    loops : k ≡ While → is_bad_while s count i b x y ≡ is_bad_by s count i b n x y z
    loops e = sym (rw (q ∙ ap statement_number e))

    calls : k ≡ Call → is_bad_call s x ≡ is_bad_by s count i b n x y z
    calls e = sym (rw (q ∙ ap statement_number e))

pub returns-in_default : goal.returns-in_default
returns-in_default c = unknown _ _ _ _ _ _ _ _ (no_statement _ (sym c.of.ensures ∙ c.in_default.is))

pub returns-in-Assign : goal.returns-in-Assign
returns-in-Assign c = c.bad_assignment.ensures ∙ assigns _ _ _ _ _ _ _ _ _ (kind_is _ _ (sym c.in-Some.ensures)) c.in-Assign.is

pub returns-in-If : goal.returns-in-If
returns-in-If c = c.bad_if.ensures ∙ branches _ _ _ _ _ _ _ _ _ (kind_is _ _ (sym c.in-Some.ensures)) c.in-If.is

pub returns-in-While : goal.returns-in-While
returns-in-While c = c.bad_while.ensures ∙ loops _ _ _ _ _ _ _ _ _ (kind_is _ _ (sym c.in-Some.ensures)) c.in-While.is

pub returns-in-Call : goal.returns-in-Call
returns-in-Call c = c.bad_call.ensures ∙ calls _ _ _ _ _ _ _ _ _ (kind_is _ _ (sym c.in-Some.ensures)) c.in-Call.is

pub returns-in-Skip : goal.returns-in-Skip
returns-in-Skip c = idle _ _ _ _ _ _ _ _ _ (kind_is _ _ (sym c.in-Some.ensures)) c.in-Skip.is
