-- What the review of a text tells: it reads, writes a schedule and judges it (R36, R52, R53).
use Rattle.std.specs.Prelude.{cond, List, [], ℕ, ◌*◌, eqb}
use Rattle.tables.specs.Limits.{most_rows, most_threads}
use Rattle.verdicts.specs.Numbers.{fills}
use Rattle.verdicts.specs.declared.Told.{Told}
use Rattle.relation.specs.Table.{words}
use Rattle.notation.specs.Reading.{reading, row_numbers, thread_lengths}
use Rattle.replay.specs.Writer.{schedule}
use Rattle.sheet.specs.Sheet.{sheet_of}
use Rattle.findings.specs.Findings.{fault_pairs}
use Rattle.review.specs.Judge.{verdict_of, generations_by, reaches}
use Rattle.sheet.specs.declared.Pair.{Pair}
use Rattle.report.specs.declared.Conclusion.{Conclusion}

-- a refusal, or a verdict without a fault's pairs: the sheet is empty with total 0 (R36, R53)
abbrev pub bare : Told → Conclusion
bare t = record { told = t; sheet = sheet_of [] }

-- two tables, judged by the writer's schedule (R52) in full rooms (R53)
module _ (commands lengths : List ℕ) where
  abbrev pub told_of : Told
  told_of = verdict_of commands lengths (schedule commands lengths) (words most_rows) most_rows

  abbrev pub pairs_of : List Pair
  pairs_of = fault_pairs commands lengths (generations_by commands lengths (schedule commands lengths)) (reaches commands lengths (schedule commands lengths))

  -- what is told, and the sheet, which is empty unless rooms are filled (R36, R52)
  unfoldable pub of_tables : Conclusion
  of_tables = cond (fills told_of.number) (record { told = told_of; sheet = sheet_of pairs_of }) (bare told_of)

-- what a reading into full rooms answers (R53)
abbrev pub read_as : List ℕ → Told
read_as text = (reading text (most_rows * 3) most_threads).told

-- What the review of a text tells (R52). A refused reading is reported like a verdict, with total 0 and no pairs (R53).
unfoldable pub of_text : List ℕ → Conclusion
of_text text = cond (eqb (read_as text).number 0) (of_tables (row_numbers text) (thread_lengths text)) (bare (read_as text))
