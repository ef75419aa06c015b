-- A report tells its conclusion again, whatever stands after it. Assumes nothing.
use mathlib.Core.Path.{◌≡◌, refl, sym, ap, ap₂, ◌∙◌}
use mathlib.Core.List.{List, [], ◌∷◌, ◌++◌, append_assoc, append_cancel_left}
use Prim.Native.Nat.{ℕ, zero, suc}
use native.Mathlib.Omega.{arith}
use lib.ListN.{length, take, length-take}
use Rattle.verdicts.specs.Verdicts.{tell}
use Rattle.verdicts.specs.declared.Told.{Told}
use Rattle.sheet.specs.declared.Pair.{Pair}
use Rattle.sheet.specs.Sheet.{most_kept, pair, firsts, sheet_of}
use Rattle.sheet.proofs.Sheets.{kept_are}
use Rattle.printing.specs.Figures.{figures}
use Rattle.printing.specs.Marks.{space, newline}
use Rattle.report.specs.Report.{verdict_word, place_word, total_word, two_numbers, verdict_line, total_line, pair_lines, report}
use Rattle.report.specs.Claims.{ToldAgain}
use Rattle.printing.proofs.Numerals.{Digit, figures_apart}

-- ---- a number up to the space or the newline after it

no_digit_space : ¬ Digit space
no_digit_space d = omega arith

no_digit_newline : ¬ Digit newline
no_digit_newline d = omega arith

by_space : (m n : ℕ) (x y : List ℕ) → figures m ++ space ∷ x ≡ figures n ++ space ∷ y → (m ≡ n) × (x ≡ y)
by_space m n x y e = let r = figures_apart {m = m} {n = n} no_digit_space no_digit_space e in (r.0, cc)

by_newline : (m n : ℕ) (x y : List ℕ) → figures m ++ newline ∷ x ≡ figures n ++ newline ∷ y → (m ≡ n) × (x ≡ y)
by_newline m n x y e = let r = figures_apart {m = m} {n = n} no_digit_newline no_digit_newline e in (r.0, cc)

-- ---- line by line

two_parts : (a b : ℕ) (x : List ℕ) → two_numbers a b ++ x ≡ figures a ++ space ∷ (figures b ++ newline ∷ x)
unfolding two_numbers
two_parts a b x = simp append_assoc

two_told : (a b c d : ℕ) (x y : List ℕ) → two_numbers a b ++ x ≡ two_numbers c d ++ y → (a ≡ c) × (b ≡ d) × (x ≡ y)
two_told a b c d x y e =
    let r = by_space a c _ _ (sym (two_parts a b x) ∙ e ∙ two_parts c d y) in
    let s = by_newline b d _ _ r.1 in
    (r.0, s.0, s.1)

verdict_parts : (t : Told) (x : List ℕ)
    → verdict_line t ++ x ≡ verdict_word ++ (figures t.number ++ (place_word ++ (two_numbers t.place t.also ++ x)))
unfolding verdict_line
verdict_parts t x = simp append_assoc

verdict_told : (t u : Told) (x y : List ℕ) → verdict_line t ++ x ≡ verdict_line u ++ y → (t ≡ u) × (x ≡ y)
verdict_told t u x y e =
    let w = append_cancel_left verdict_word _ _ (sym (verdict_parts t x) ∙ e ∙ verdict_parts u y) in
    let r = by_space t.number u.number _ _ w in
    let s = two_told t.place t.also u.place u.also x y cc in
    let f : tell t.number t.place t.also ≡ tell u.number u.place u.also = cc in
    (f, s.2)

total_parts : (n : ℕ) (x : List ℕ) → total_line n ++ x ≡ total_word ++ (figures n ++ newline ∷ x)
unfolding total_line
total_parts n x = simp append_assoc

total_told : (m n : ℕ) (x y : List ℕ) → total_line m ++ x ≡ total_line n ++ y → (m ≡ n) × (x ≡ y)
total_told m n x y e = by_newline m n x y (append_cancel_left total_word _ _ (sym (total_parts m x) ∙ e ∙ total_parts n y))

-- as many lines as pairs
pairs_told : (ps qs : List Pair) (x y : List ℕ) → length ps ≡ length qs → pair_lines ps ++ x ≡ pair_lines qs ++ y → (ps ≡ qs) × (x ≡ y)
unfolding pair_lines
pairs_told [] [] x y h e = (refl, e)
pairs_told [] (q ∷ qs) x y h e = absurd (omega arith)
pairs_told (p ∷ ps) [] x y h e = absurd (omega arith)
pairs_told (p ∷ ps) (q ∷ qs) x y h e =
    let r = two_told p.first p.second q.first q.second (pair_lines ps ++ x) (pair_lines qs ++ y)
    (sym (append_assoc (two_numbers p.first p.second) (pair_lines ps) x) ∙ e ∙ append_assoc (two_numbers q.first q.second) (pair_lines qs) y) in
    let s = pairs_told ps qs x y (omega arith) r.2 in
    let f : pair p.first p.second ≡ pair q.first q.second = cc in
    (ap₂ (λ (a : Pair) (l : List Pair). a ∷ l) f s.0, s.1)

-- ---- the sheet: the pairs kept are the first sixteen of the list

firsts_take : (n : ℕ) (ps : List Pair) → firsts n (take n ps) ≡ firsts n ps
unfolding firsts
firsts_take zero ps = refl
firsts_take (suc n) [] = refl
firsts_take (suc n) (p ∷ ps) = ap (λ (l : List Pair). p ∷ l) (firsts_take n ps)

sheet_told : (ps qs : List Pair) → length ps ≡ length qs → take most_kept ps ≡ take most_kept qs → sheet_of ps ≡ sheet_of qs
unfolding sheet_of
sheet_told ps qs h e =
    ap₂ (λ (l : List Pair) (n : ℕ). record { pairs = l; total = n })
    (sym (firsts_take most_kept ps) ∙ ap (firsts most_kept) e ∙ firsts_take most_kept qs) h

-- ---- the report

report_parts : (t : Told) (ps : List Pair) (x : List ℕ)
    → report (record { told = t; sheet = sheet_of ps }) ++ x ≡ verdict_line t ++ (total_line (length ps) ++ (pair_lines (take most_kept ps) ++ x))
unfolding report sheet_of
report_parts t ps x = rw (kept_are ps) (simp append_assoc)

pub told_again : ToldAgain
told_again t u ps qs x y e =
    let r = verdict_told t u _ _ (sym (report_parts t ps x) ∙ e ∙ report_parts u qs y) in
    let s = total_told (length ps) (length qs) _ _ r.1 in
    let h : length (take most_kept ps) ≡ length (take most_kept qs) = omega (arith, s.0, length-take most_kept ps, length-take most_kept qs) in
    let p = pairs_told (take most_kept ps) (take most_kept qs) x y h s.1 in
    (r.0, sheet_told ps qs s.0 p.0, p.1)
