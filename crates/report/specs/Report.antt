-- The report: `verdict V place P Q`, `total T`, then one line a kept pair, each line closed by a newline (R55, R56).
use Rattle.std.specs.Prelude.{List, [], ◌∷◌, ◌++◌, ℕ}
use Rattle.verdicts.specs.declared.Told.{Told}
use Rattle.sheet.specs.declared.Pair.{Pair}
use Rattle.sheet.specs.Sheet.{kept_pairs}
use Rattle.report.specs.declared.Conclusion.{Conclusion}
use Rattle.printing.specs.Marks.{space, newline}
use Rattle.printing.specs.Figures.{figures}

-- `verdict `, ` place ` and `total ` (R55)
abbrev pub verdict_word : List ℕ
verdict_word = 118 ∷ 101 ∷ 114 ∷ 100 ∷ 105 ∷ 99 ∷ 116 ∷ space ∷ []

abbrev pub place_word : List ℕ
place_word = space ∷ 112 ∷ 108 ∷ 97 ∷ 99 ∷ 101 ∷ space ∷ []

abbrev pub total_word : List ℕ
total_word = 116 ∷ 111 ∷ 116 ∷ 97 ∷ 108 ∷ space ∷ []

-- two numbers, and the line's end (R55)
unfoldable pub two_numbers : ℕ → ℕ → List ℕ
two_numbers a b = figures a ++ space ∷ figures b ++ newline ∷ []

-- the first line (R55)
unfoldable pub verdict_line : Told → List ℕ
verdict_line t = verdict_word ++ figures t.number ++ place_word ++ two_numbers t.place t.also

-- the second line (R55)
unfoldable pub total_line : ℕ → List ℕ
total_line n = total_word ++ figures n ++ newline ∷ []

-- a line for each pair (R55)
unfoldable pub pair_lines : List Pair → List ℕ
pair_lines [] = []
pair_lines (p ∷ ps) = two_numbers p.first p.second ++ pair_lines ps

-- all of it: the pairs are those that the sheet keeps (R55, R56)
unfoldable pub report : Conclusion → List ℕ
report c = verdict_line c.told ++ total_line c.sheet.total ++ pair_lines (kept_pairs c.sheet)
