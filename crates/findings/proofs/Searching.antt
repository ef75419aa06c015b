-- The pairs of a search, one after the other, make the sheet of their list. Assumes nothing.
use mathlib.Core.Path.{◌≡◌, sym, ap, ◌∙◌}
use mathlib.Core.Bool.{Bool}
use mathlib.Core.List.{List, [], ◌∷◌, ◌++◌}
use Prim.Native.Nat.{ℕ, ◌+◌, ◌*◌, ◌≤◌, ◌<◌}
use native.Mathlib.Nat.{suc-mul, mul-le-mul}
use native.Mathlib.Numerals.{add-one}
use native.Mathlib.Omega.{arith}
use lib.ListN.{length}
use Rattle.tables.specs.Limits.{most_rows}
use Rattle.sheet.specs.declared.Pair.{Pair}
use Rattle.sheet.specs.declared.Sheet.{Sheet}
use Rattle.sheet.specs.Sheet.{most_counted, sheet_of, added}
use Rattle.sheet.specs.Needs.{add_all}
use Rattle.sheet.proofs.Sheets.{add_all_append, add_all_from, sheet_total}
use Rattle.faults.specs.Faults.{along_row, all_rows}
use Rattle.faults.proofs.Searched.{row_length, all_none, all_next, all_length}

-- no pair more
pub none_added : (s : Sheet) (ps : List Pair) → ps ≡ [] → s ≡ add_all s ps
unfolding add_all
none_added s ps e = rw e

-- one pair more
pub one_added : (ps qs : List Pair) (p : Pair) (s : Sheet) {t : Sheet} → t ≡ add_all s ps → qs ≡ ps ++ p ∷ [] → added t p ≡ add_all s qs
unfolding add_all
one_added ps qs p s e q = ap (λ (u : Sheet). added u p) e ∙ sym (add_all_append s ps (p ∷ [])) ∙ ap (add_all s) (sym q)

-- ---- the rows one after the other: the sheet of all pairs so far

module _ (found : ℕ → ℕ → Bool) (to : ℕ → ℕ → Pair) (m : ℕ) where
  abbrev row : ℕ → List Pair
  row i = along_row (found i) (to i) m

  pub all_begun : sheet_of [] ≡ sheet_of (all_rows found to m 0)
  all_begun = ap sheet_of (sym (all_none found to m))

  module _ (s : Sheet) (i : ℕ) (few : m ≤ most_rows) (low : i < m) (e : s ≡ sheet_of (all_rows found to m i)) where
    total_is : s.total ≡ length (all_rows found to m i)
    total_is = ap (λ (u : Sheet). u.total) e ∙ sheet_total _

    -- no total wraps
    pub total_few : s.total + length (row i) ≤ most_rows * most_rows
    total_few =
        let a = all_length found to m i in
        let b = row_length (found i) (to i) m in
        let l : i + 1 ≤ most_rows = omega arith in
        let c : (i + 1) * m ≤ most_rows * most_rows = mul-le-mul l few in
        omega (arith, total_is, suc-mul i m, add-one i)

    -- a row more
    pub row_added : {t : Sheet} → t ≡ add_all s (row i) → t ≡ sheet_of (all_rows found to m (i + 1))
    unfolding most_rows most_counted
    row_added k = k ∙ rw e (add_all_from _ (row i) (omega (arith, total_few, total_is))) ∙ ap sheet_of (sym (all_next found to m i))
