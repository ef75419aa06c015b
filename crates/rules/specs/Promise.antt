-- What each public function promises.
use Rattle.std.specs.Prelude.{◌≡◌, Bool, List, ℕ, Result}
use Rattle.verdicts.specs.Verdicts.{result_told}
use Rattle.verdicts.specs.declared.Refusal.{Refusal}
use Rattle.rules.specs.Rules.{are_bad_commands, checked}

-- `bad_commands`
abbrev pub AnswersBadCommands : (commands : List ℕ) (r : Bool) → Type 0
AnswersBadCommands commands r = r ≡ are_bad_commands commands

-- `check_tables`
abbrev pub AnswersCheckTables : (commands lengths : List ℕ) (r : Result (Unit {0}) Refusal) → Type 0
AnswersCheckTables commands lengths r = result_told r ≡ checked commands lengths
