-- Two answers that meet the contract of a public function for the same inputs are equal. Assumes nothing.
use mathlib.Core.Path.{◌≡◌, sym, ◌∙◌}
use mathlib.Core.Bool.{Bool}
use mathlib.Core.List.{List}
use Prim.Native.Nat.{ℕ}
use Rattle.std.specs.Prelude.{Result}
use Rattle.verdicts.specs.declared.Refusal.{Refusal}
use Rattle.verdicts.proofs.Verdicts.{result_told_one}
use Rattle.rules.specs.Promise.{AnswersBadCommands, AnswersCheckTables}

pub bad_commands_one : (commands : List ℕ) {a b : Bool} → AnswersBadCommands commands a → AnswersBadCommands commands b → a ≡ b
bad_commands_one commands e f = e ∙ sym f

pub check_one : (commands lengths : List ℕ) (v w : Result (Unit {0}) Refusal) → AnswersCheckTables commands lengths v → AnswersCheckTables commands lengths w → v ≡ w
check_one commands lengths v w e f = result_told_one v w (e ∙ sym f)
