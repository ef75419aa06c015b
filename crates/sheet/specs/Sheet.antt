-- The fault sheet of a list of pairs: the first sixteen are kept, and later ones only raise the total (R34, R35, R80).
use Rattle.std.specs.Prelude.{cond, List, [], ◌∷◌, ℕ, zero, suc, ◌+◌, ◌-◌, ◌^◌, min, ltb, length, set, take, get_or}
use Rattle.sheet.specs.declared.Pair.{Pair}
use Rattle.sheet.specs.declared.Sheet.{Sheet}

-- so many pairs are kept (R35)
unfoldable pub most_kept : ℕ
most_kept = 16

-- so many can be counted; no review finds so many (R80)
unfoldable pub most_counted : ℕ
most_counted = 2 ^ 64 - 1

abbrev pub pair : ℕ → ℕ → Pair
pair x y = record { first = x; second = y }

-- the first n pairs; unused places are 0 (R35)
unfoldable pub firsts : ℕ → List Pair → List Pair
firsts zero ps = []
firsts (suc n) [] = pair 0 0 ∷ firsts n []
firsts (suc n) (p ∷ ps) = p ∷ firsts n ps

-- the sheet of a list: its first sixteen (R35), and how many it has (R34)
unfoldable pub sheet_of : List Pair → Sheet
sheet_of ps = record { pairs = firsts most_kept ps; total = length ps }

-- the pairs that a sheet keeps: as many as the smaller of its total and sixteen (R35, R56)
abbrev pub kept_pairs : Sheet → List Pair
kept_pairs s = take (min s.total most_kept) s.pairs

-- the first of them (R35)
abbrev pub first_kept : Sheet → Pair
first_kept s = get_or s.pairs 0 (pair 0 0)

-- a total with one pair more; at the largest number of its type it stays (R80)
abbrev pub raised : ℕ → ℕ
raised total = min (total + 1) most_counted

-- One pair more. Sixteen pairs, then only the total grows (R35).
unfoldable pub added : Sheet → Pair → Sheet
added s p = record { pairs = cond (ltb s.total most_kept) (set s.pairs s.total p) s.pairs; total = raised s.total }
