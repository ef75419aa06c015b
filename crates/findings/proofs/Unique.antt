-- Any two outcomes that meet the contract of a door are equal. Assumes nothing.
use mathlib.Core.Path.{◌≡◌, sym, ap₂, ◌∙◌}
use mathlib.Core.List.{List}
use Prim.Native.Nat.{ℕ}
use Rattle.verdicts.specs.declared.Verdict.{Verdict}
use Rattle.verdicts.proofs.Verdicts.{numbered_one}
use Rattle.sheet.specs.declared.Sheet.{Sheet}
use Rattle.findings.specs.declared.finding.Finding.{Finding}
use Rattle.findings.specs.Findings.{Finds}
use Rattle.findings.specs.Promise.{AnswersBare}

pub bare_one : (v : Verdict) {a b : Finding} → AnswersBare v a → AnswersBare v b → a ≡ b
bare_one v A B = A ∙ sym B

pub find_faults_one : (commands lengths generations relation : List ℕ) (a b : Finding) → Finds commands lengths generations relation a
    → Finds commands lengths generations relation b → a ≡ b
find_faults_one commands lengths generations relation a b A B =
    ap₂ (λ (v : Verdict) (s : Sheet). record { verdict = v; sheet = s }) (numbered_one _ _ (A.verdict ∙ sym B.verdict)) (A.sheet ∙ sym B.sheet)
