-- The lines of a report: how long they are, and pairs one after another. Assumes nothing.
use mathlib.Core.Path.{◌≡◌, refl, sym, ap, ◌∙◌}
use mathlib.Core.List.{List, [], ◌∷◌, ◌++◌, append_assoc, append-nil}
use Prim.Native.Nat.{ℕ, ◌+◌, ◌<◌}
use native.Mathlib.Numerals.{add-one}
use native.Mathlib.Omega.{arith}
use lib.ListN.{length, get_or, take, length-append}
use lib.Seq.{take-suc}
use Rattle.verdicts.specs.declared.Told.{Told}
use Rattle.sheet.specs.declared.Pair.{Pair}
use Rattle.report.specs.declared.Conclusion.{Conclusion}
use Rattle.printing.specs.Figures.{figures}
use Rattle.sheet.specs.Sheet.{kept_pairs}
use Rattle.printing.specs.Marks.{space, newline}
use Rattle.report.specs.Report.{verdict_word, place_word, total_word, two_numbers, verdict_line, total_line, pair_lines, report}

-- ---- lengths

pub two_long : (a b : ℕ) → length (two_numbers a b) ≡ length (figures a) + length (figures b) + 2
unfolding two_numbers
two_long a b = omega (arith, length-append (figures a ++ space ∷ figures b) (newline ∷ []), length-append (figures a) (space ∷ figures b))

pub verdict_long : (t : Told) → length (verdict_line t) ≡ length (figures t.number) + length (two_numbers t.place t.also) + 15
unfolding verdict_line
verdict_long t =
    omega (
      arith,
      length-append (verdict_word ++ figures t.number ++ place_word) (two_numbers t.place t.also),
      length-append (verdict_word ++ figures t.number) place_word,
      length-append verdict_word (figures t.number),
    )

pub total_long : (n : ℕ) → length (total_line n) ≡ length (figures n) + 7
unfolding total_line
total_long n = omega (arith, length-append (total_word ++ figures n) (newline ∷ []), length-append total_word (figures n))

pub report_long : (c : Conclusion)
    → length (report c) ≡ length (verdict_line c.told) + length (total_line c.sheet.total) + length (pair_lines (kept_pairs c.sheet))
unfolding report
report_long c =
    omega (
      arith,
      length-append (verdict_line c.told ++ total_line c.sheet.total) (pair_lines (kept_pairs c.sheet)),
      length-append (verdict_line c.told) (total_line c.sheet.total),
    )

-- ---- a line of two numbers, each with what follows it

pub two_halves : (a b : ℕ) → (figures a ++ space ∷ []) ++ (figures b ++ newline ∷ []) ≡ two_numbers a b
unfolding two_numbers
two_halves a b = simp append_assoc

-- ---- pairs one after another

pub pairs_append : (ps qs : List Pair) → pair_lines (ps ++ qs) ≡ pair_lines ps ++ pair_lines qs
unfolding pair_lines
pairs_append [] qs = refl
pairs_append (p ∷ ps) qs =
    ap (λ (w : List ℕ). two_numbers p.first p.second ++ w) (pairs_append ps qs)
    ∙ sym (append_assoc (two_numbers p.first p.second) (pair_lines ps) (pair_lines qs))

pub pairs_one : (p : Pair) → pair_lines (p ∷ []) ≡ two_numbers p.first p.second
unfolding pair_lines
pairs_one p = append-nil (two_numbers p.first p.second)

pub pairs_next : (ps : List Pair) (i : ℕ) (d : Pair) → i < length ps
    → pair_lines (take (i + 1) ps) ≡ pair_lines (take i ps) ++ two_numbers (get_or ps i d).first (get_or ps i d).second
pairs_next ps i d h =
    rw (add-one i, take-suc ps i d h, pairs_append (take i ps) (get_or ps i d ∷ []))
    (ap (λ (w : List ℕ). pair_lines (take i ps) ++ w) (pairs_one (get_or ps i d)))
