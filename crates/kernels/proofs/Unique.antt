-- Two answers that meet the contract of a public function for the same inputs are equal. Assumes nothing.
use mathlib.Core.Path.{◌≡◌, sym, ◌∙◌}
use mathlib.Core.List.{List}
use Prim.Native.Nat.{ℕ}
use Rattle.std.specs.Prelude.{Option, Result}
use Rattle.kernels.specs.declared.kernel.StatementKind.{StatementKind}
use Rattle.kernels.specs.declared.kernel.ExpressionKind.{ExpressionKind}
use Rattle.kernels.specs.declared.kernel.KernelRefusal.{KernelRefusal}
use Rattle.kernels.specs.Promise.{AnswersStatementKind, AnswersExpressionKind, AnswersRefusalNumber, AnswersRefusalPlace, AnswersRuling}

pub statement_kind_one : (number : ℕ) {r q : Option StatementKind} → AnswersStatementKind number r → AnswersStatementKind number q → r ≡ q
statement_kind_one number f g = f ∙ sym g

pub expression_kind_one : (number : ℕ) {r q : Option ExpressionKind} → AnswersExpressionKind number r → AnswersExpressionKind number q → r ≡ q
expression_kind_one number f g = f ∙ sym g

pub refusal_number_one : (refusal : KernelRefusal) {r q : ℕ} → AnswersRefusalNumber refusal r → AnswersRefusalNumber refusal q → r ≡ q
refusal_number_one refusal f g = f ∙ sym g

pub refusal_place_one : (refusal : KernelRefusal) {r q : ℕ} → AnswersRefusalPlace refusal r → AnswersRefusalPlace refusal q → r ≡ q
refusal_place_one refusal f g = f ∙ sym g

pub ruling_one : (s e : List ℕ) (lanes : ℕ) {r q : Result (Unit {0}) KernelRefusal} → AnswersRuling s e lanes r → AnswersRuling s e lanes q → r ≡ q
ruling_one s e lanes f g = f ∙ sym g
