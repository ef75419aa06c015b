-- What each public function promises.
use Rattle.std.specs.Prelude.{◌≡◌, List, ℕ, Option, Result}
use Rattle.kernels.specs.declared.kernel.StatementKind.{StatementKind}
use Rattle.kernels.specs.declared.kernel.ExpressionKind.{ExpressionKind}
use Rattle.kernels.specs.declared.kernel.KernelRefusal.{KernelRefusal}
use Rattle.kernels.specs.Rows.{statement_kind, expression_kind}
use Rattle.kernels.specs.Refusals.{refusal_number, refusal_place, ruling_of}

-- `StatementKind::of`
abbrev pub AnswersStatementKind : (number : ℕ) → Option StatementKind → Type 0
AnswersStatementKind number r = r ≡ statement_kind number

-- `ExpressionKind::of`
abbrev pub AnswersExpressionKind : (number : ℕ) → Option ExpressionKind → Type 0
AnswersExpressionKind number r = r ≡ expression_kind number

-- `KernelRefusal::number`
abbrev pub AnswersRefusalNumber : KernelRefusal → (r : ℕ) → Type 0
AnswersRefusalNumber refusal r = r ≡ refusal_number refusal

-- `KernelRefusal::place`
abbrev pub AnswersRefusalPlace : KernelRefusal → (r : ℕ) → Type 0
AnswersRefusalPlace refusal r = r ≡ refusal_place refusal

-- `ruling`
abbrev pub AnswersRuling : (statements expressions : List ℕ) (lanes : ℕ) → Result (Unit {0}) KernelRefusal → Type 0
AnswersRuling statements expressions lanes r = r ≡ ruling_of statements expressions lanes
