-- What is printed of evidence: for each schedule a line in words that says what it shows, and below it the schedule (R62, R63).
use Rattle.std.specs.Prelude.{Bool, cond, List, [], ◌∷◌, ◌++◌, ℕ, eqb, length}
use Rattle.tables.specs.Rows.{rows}
use Rattle.relation.specs.Table.{related}
use Rattle.sheet.specs.declared.Pair.{Pair}
use Rattle.sheet.specs.declared.Sheet.{Sheet}
use Rattle.sheet.specs.Sheet.{kept_pairs, first_kept}
use Rattle.rooms.specs.Refusals.{review_refusal}
use Rattle.rooms.specs.Rooms.{number_at}
use Rattle.replay.specs.Writer.{apart_schedule}
use Rattle.wording.specs.declared.Shown.{Shown}
use Rattle.wording.specs.declared.Shown.TheVariants.{First}
use Rattle.exhibits.specs.Shown.{what_is_shown}
use Rattle.wording.specs.Lines.{shown_line, steps_line}

-- a schedule below what it shows (R63)
abbrev pub exhibit : Shown → List ℕ → List ℕ
exhibit s τ = shown_line s ++ steps_line τ

-- over what reaches what
module _ (commands lengths : List ℕ) (ρ : ℕ → ℕ → Bool) where
  -- the schedule of a pair, in which the first waits as long as it can (R62)
  abbrev pub pair_schedule : Pair → List ℕ
  pair_schedule p = apart_schedule commands lengths ρ p.first p.second

  -- of a reuse fault, and what its schedule shows against the generations g
  unfoldable pub reuse_exhibit : (ℕ → ℕ) → Pair → List ℕ
  reuse_exhibit g p = exhibit (what_is_shown commands lengths g (pair_schedule p)) (pair_schedule p)

  -- of a race, x first: y waits as long as it can (R62)
  unfoldable pub order_exhibit : (x y : ℕ) → List ℕ
  order_exhibit x y = exhibit (First x y) (apart_schedule commands lengths ρ y x)

  -- of each race (x, y) in turn, x first and then y first (R60)
  unfoldable pub race_exhibits : List Pair → List ℕ
  race_exhibits [] = []
  race_exhibits (p ∷ ps) = order_exhibit p.first p.second ++ order_exhibit p.second p.first ++ race_exhibits ps

-- 10: of the sheet's first pair. 11: of each pair that it keeps. Other verdicts have no exhibits (R63).
unfoldable pub exhibits : (commands lengths : List ℕ) (g : ℕ → ℕ) (ρ : ℕ → ℕ → Bool) → ℕ → Sheet → List ℕ
exhibits commands lengths g ρ n s =
    cond (eqb n 10) (reuse_exhibit commands lengths ρ g (first_kept s)) (cond (eqb n 11) (race_exhibits commands lengths ρ (kept_pairs s)) [])

-- over lent rooms; where tables or rooms are refused there are no exhibits
unfoldable pub exhibited : (commands lengths generations relation : List ℕ) → ℕ → Sheet → List ℕ
exhibited commands lengths generations relation n s =
    cond (eqb (review_refusal commands lengths (length relation) (length generations)).number 0)
    (exhibits commands lengths (number_at generations) (related relation (rows commands)) n s) []
