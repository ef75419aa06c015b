-- What `bare` promises; for `find_faults` that is `Finds`.
use Rattle.std.specs.Prelude.{◌≡◌, []}
use Rattle.verdicts.specs.declared.Verdict.{Verdict}
use Rattle.sheet.specs.Sheet.{sheet_of}
use Rattle.findings.specs.declared.finding.Finding.{Finding}

-- `bare`: an empty sheet, with total 0 (R36)
abbrev pub AnswersBare : (verdict : Verdict) (r : Finding) → Type 0
AnswersBare verdict r = r ≡ record { verdict = verdict; sheet = sheet_of [] }
