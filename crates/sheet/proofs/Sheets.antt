-- Pairs that are added one after the other make the sheet of their list. Assumes nothing.
use mathlib.Core.Path.{◌≡◌, refl, sym, ap, ap₂, ◌∙◌}
use mathlib.Core.Logic.{by_cases}
use mathlib.Core.List.{List, [], ◌∷◌, ◌++◌, append_assoc, append-nil}
use Prim.Native.Nat.{ℕ, zero, suc, ◌+◌, ◌≤◌, ◌<◌, min}
use native.Mathlib.Decide.{dec_lt}
use native.Mathlib.Omega.{arith}
use native.Mathlib.Numerals.{unary_clauses}
use lib.ListN.{length, set, take, length-append}
use borrow.Author.Tests.{lt-ltb, le-ltb}
use Rattle.sheet.specs.declared.Pair.{Pair}
use Rattle.sheet.specs.declared.Sheet.{Sheet}
use Rattle.sheet.specs.Sheet.{most_kept, most_counted, firsts, sheet_of, added}
use Rattle.sheet.specs.Needs.{add_all}
use Rattle.sheet.specs.Claims.{SheetTotal, KeptAre}

-- ---- one pair more

kept_more : (n : ℕ) (ps : List Pair) (p : Pair) → length ps < n → set (firsts n ps) (length ps) p ≡ firsts n (ps ++ p ∷ [])
unfolding firsts
kept_more zero ps p h = absurd (omega arith)
kept_more (suc n) [] p h = refl
kept_more (suc n) (q ∷ ps) p h = ap (λ (l : List Pair). q ∷ l) (kept_more n ps p (omega arith))

full : (n : ℕ) (ps qs : List Pair) → n ≤ length ps → firsts n ps ≡ firsts n (ps ++ qs)
unfolding firsts
full zero ps qs h = refl
full (suc n) [] qs h = absurd (omega arith)
full (suc n) (p ∷ ps) qs h = ap (λ (l : List Pair). p ∷ l) (full n ps qs (omega arith))

added_sheet : (ps : List Pair) (p : Pair) → length ps < most_counted → added (sheet_of ps) p ≡ sheet_of (ps ++ p ∷ [])
unfolding added sheet_of
added_sheet ps p l =
    ap₂ (λ (l : List Pair) (n : ℕ). record { pairs = l; total = n })
    (by_cases (dec_lt (length ps) most_kept) (λ (h : length ps < most_kept). rw (lt-ltb _ _ h) (kept_more most_kept ps p h))
    (λ (h : ¬ (length ps < most_kept)). rw (le-ltb (length ps) most_kept (omega arith)) (full most_kept ps (p ∷ []) (omega arith))))
    (omega (arith, length-append ps (p ∷ [])))

-- ---- a list more

pub add_all_append : (s : Sheet) (ps qs : List Pair) → add_all s (ps ++ qs) ≡ add_all (add_all s ps) qs
unfolding add_all
add_all_append s [] qs = refl
add_all_append s (p ∷ ps) qs = add_all_append (added s p) ps qs

-- of so many as can be counted
pub add_all_from : (ps qs : List Pair) → length ps + length qs ≤ most_counted → add_all (sheet_of ps) qs ≡ sheet_of (ps ++ qs)
unfolding add_all
add_all_from ps [] l = ap sheet_of (sym (append-nil ps))
add_all_from ps (q ∷ qs) l =
    ap (λ (t : Sheet). add_all t qs) (added_sheet ps q (omega arith)) ∙ add_all_from (ps ++ q ∷ []) qs (omega (arith, length-append ps (q ∷ [])))
    ∙ ap sheet_of (append_assoc ps (q ∷ []) qs)

-- a sheet that keeps as many as it can only counts
pub added_full : (s : Sheet) (p : Pair) → most_kept ≤ s.total → s.total < most_counted → record { pairs = s.pairs; total = s.total + 1 } ≡ added s p
unfolding added
added_full s p h l = rw (le-ltb s.total most_kept h) (ap (λ (n : ℕ). record { pairs = s.pairs; total = n }) (omega arith))

-- no pair counts twice
pub add_all_total : (s : Sheet) (ps : List Pair) → (add_all s ps).total ≤ s.total + length ps
unfolding add_all added
add_all_total s [] = omega arith
add_all_total s (p ∷ ps) = omega (arith, add_all_total (added s p) ps)

pub sheet_total : SheetTotal
unfolding sheet_of
sheet_total ps = refl

-- ---- the pairs kept are the first sixteen of the list

firsts_long : (n : ℕ) (ps : List Pair) → length (firsts n ps) ≡ n
unfolding firsts
firsts_long zero ps = refl
firsts_long (suc n) [] = ap suc (firsts_long n [])
firsts_long (suc n) (p ∷ ps) = ap suc (firsts_long n ps)

pub sheet_long : (ps : List Pair) → length (sheet_of ps).pairs ≡ most_kept
unfolding sheet_of
sheet_long ps = firsts_long most_kept ps

kept_firsts : (n : ℕ) (ps : List Pair) → take (min (length ps) n) (firsts n ps) ≡ take n ps
unfolding firsts
kept_firsts zero [] = refl
kept_firsts zero (p ∷ ps) = simp unary_clauses
kept_firsts (suc n) [] = simp unary_clauses
kept_firsts (suc n) (p ∷ ps) = simp unary_clauses (ap (λ (l : List Pair). p ∷ l) (kept_firsts n ps))

pub kept_are : KeptAre
unfolding sheet_of
kept_are ps = kept_firsts most_kept ps
