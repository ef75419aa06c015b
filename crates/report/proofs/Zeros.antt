-- A report has no zero byte. Assumes nothing.
use mathlib.Core.Path.{refl}
use mathlib.Core.List.{List, [], ◌∷◌, ◌++◌}
use Prim.Native.Nat.{ℕ}
use Rattle.spelling.specs.Bytes.{run}
use Rattle.verdicts.specs.declared.Told.{Told}
use Rattle.sheet.specs.declared.Pair.{Pair}
use Rattle.sheet.specs.Sheet.{kept_pairs}
use Rattle.printing.specs.Marks.{space, newline}
use Rattle.printing.specs.Figures.{figures}
use Rattle.printing.specs.Zeros.{NoZero}
use Rattle.printing.proofs.Zeros.{no_zero_append, figures_no_zero, within_no_zero}
use Rattle.report.specs.declared.Conclusion.{Conclusion}
use Rattle.report.specs.Report.{verdict_word, place_word, total_word, two_numbers, verdict_line, total_line, pair_lines, report}

two_no_zero : (a b : ℕ) → NoZero (two_numbers a b)
unfolding two_numbers run
two_no_zero a b =
    no_zero_append (figures a ++ space ∷ figures b) (newline ∷ [])
    (no_zero_append (figures a) (space ∷ figures b) (figures_no_zero a) (no_zero_append (space ∷ []) (figures b) refl (figures_no_zero b))) refl

verdict_no_zero : (t : Told) → NoZero (verdict_line t)
unfolding verdict_line run
verdict_no_zero t =
    no_zero_append (verdict_word ++ figures t.number ++ place_word) (two_numbers t.place t.also)
    (within_no_zero verdict_word t.number place_word refl refl) (two_no_zero t.place t.also)

total_no_zero : (n : ℕ) → NoZero (total_line n)
unfolding total_line run
total_no_zero n = within_no_zero total_word n (newline ∷ []) refl refl

pairs_no_zero : (ps : List Pair) → NoZero (pair_lines ps)
unfolding pair_lines run
pairs_no_zero [] = refl
pairs_no_zero (p ∷ ps) = no_zero_append (two_numbers p.first p.second) (pair_lines ps) (two_no_zero p.first p.second) (pairs_no_zero ps)

pub report_no_zero : (c : Conclusion) → NoZero (report c)
unfolding report
report_no_zero c =
    no_zero_append (verdict_line c.told ++ total_line c.sheet.total) (pair_lines (kept_pairs c.sheet))
    (no_zero_append (verdict_line c.told) (total_line c.sheet.total) (verdict_no_zero c.told) (total_no_zero c.sheet.total))
    (pairs_no_zero (kept_pairs c.sheet))
