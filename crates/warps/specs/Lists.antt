-- Lists of statements told by rows: each of `count` rows lies in one list, and a list is the rows that lie in it, in order (R66).
use Rattle.std.specs.Prelude.{cond, List, [], ◌∷◌, ℕ, zero, suc, eqb}
use Rattle.warps.specs.Language.{Stm, Bodies}

module _ (row : ℕ → Stm) (list : ℕ → ℕ) where
  -- of the m rows from i on, those in list b (R66)
  unfoldable pub rows_from : (m i b : ℕ) → List Stm
  rows_from zero i b = []
  rows_from (suc m) i b = cond (eqb (list i) b) (row i ∷ rows_from m (suc i) b) (rows_from m (suc i) b)

  abbrev pub lists_of : (count : ℕ) → Bodies
  lists_of count b = rows_from count 0 b
