-- How long a report is whose numbers are small. Assumes nothing.
use mathlib.Core.List.{List, [], ◌∷◌}
use Prim.Native.Nat.{ℕ, zero, suc, ◌*◌, ◌≤◌, ◌<◌, min}
use native.Mathlib.Omega.{arith}
use lib.ListN.{length, get_or, take, length-append}
use Rattle.sheet.specs.declared.Pair.{Pair}
use Rattle.sheet.specs.Sheet.{most_kept, pair}
use Rattle.report.specs.declared.Conclusion.{Conclusion}
use Rattle.report.specs.Report.{two_numbers, pair_lines, report}
use Rattle.printing.proofs.Numerals.{figures_long}
use Rattle.report.proofs.Lines.{two_long, verdict_long, total_long, report_long}

-- numbers below 1,000
abbrev pub Short : Pair → Type 0
Short p = (p.first < 1000) × (p.second < 1000)

-- eight bytes a line
pairs_short : (n : ℕ) (ps : List Pair) → ((k : ℕ) → k < n → Short (get_or ps k (pair 0 0))) → length (pair_lines (take n ps)) ≤ n * 8
unfolding pair_lines
pairs_short zero ps h = omega arith
pairs_short (suc n) [] h = omega arith
pairs_short (suc n) (p ∷ ps) h =
    let s = h 0 (omega arith) in
    omega (
      arith,
      length-append (two_numbers p.first p.second) (pair_lines (take n ps)),
      two_long p.first p.second,
      figures_long p.first 3 s.0 (omega arith),
      figures_long p.second 3 s.1 (omega arith),
      pairs_short n ps (λ k l. h (suc k) (omega arith)),
    )

-- 27 and 13 bytes at most, and sixteen lines of pairs
unfoldable pub longest : ℕ
longest = 168

pub report_short : (c : Conclusion) → c.told.number < 100 → c.told.place < 100000 → c.told.also < 1000 → c.sheet.total < 1000000
    → ((k : ℕ) → k < most_kept → Short (get_or c.sheet.pairs k (pair 0 0))) → length (report c) ≤ longest
unfolding most_kept longest
report_short c n p a t h =
    omega (
      arith,
      report_long c,
      verdict_long c.told,
      two_long c.told.place c.told.also,
      total_long c.sheet.total,
      figures_long c.told.number 2 n (omega arith),
      figures_long c.told.place 5 p (omega arith),
      figures_long c.told.also 3 a (omega arith),
      figures_long c.sheet.total 6 t (omega arith),
      pairs_short (min c.sheet.total 16) c.sheet.pairs (λ k l. h k (omega arith)),
    )
