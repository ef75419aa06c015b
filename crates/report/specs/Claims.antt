-- What is proved of reports: what can be told from one (R56). Retold, in proofs/, has it, under the name `told_again`.
use Rattle.std.specs.Prelude.{◌≡◌, List, ◌++◌, ℕ}
use Rattle.verdicts.specs.declared.Told.{Told}
use Rattle.sheet.specs.declared.Pair.{Pair}
use Rattle.sheet.specs.Sheet.{sheet_of}
use Rattle.report.specs.Report.{report}

-- A report tells its conclusion again, whatever stands after it in the room: verdict, places, total and kept pairs (R56).
abbrev pub ToldAgain : Type 0
ToldAgain =
    (t u : Told) (ps qs : List Pair) (rest rest' : List ℕ)
    → report (record { told = t; sheet = sheet_of ps }) ++ rest ≡ report (record { told = u; sheet = sheet_of qs }) ++ rest'
    → (t ≡ u) × (sheet_of ps ≡ sheet_of qs) × (rest ≡ rest')
