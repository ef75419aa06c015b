-- What evidence is, over the replay's own definitions, and which schedules are written (R39, R59 to R62).
use Rattle.std.specs.Prelude.{◌≡◌, ◌⊎◌, ◌≢◌, Bool, true, cond, List, [], ◌∷◌, ◌++◌, ℕ, ◌*◌, ◌<◌, eqb}
use Rattle.tables.specs.Rows.{rows}
use Rattle.verdicts.specs.Numbers.{ends_unclean}
use Rattle.sheet.specs.declared.Pair.{Pair}
use Rattle.sheet.specs.declared.Sheet.{Sheet}
use Rattle.sheet.specs.Sheet.{kept_pairs, first_kept}
use Rattle.steps.specs.Ending.{judged}
use Rattle.steps.specs.Going.{played, generation}
use Rattle.replay.specs.Schedules.{Complete, Precedes}
use Rattle.replay.specs.Writer.{apart_schedule}

module _ (commands lengths : List ℕ) where
  -- Evidence for verdict 10 of an offered schedule σ: a legal, complete schedule τ that ends in 7, 8 or 9, or in which some command has
  -- another generation than in σ (R59).
  pub record Disputes (σ τ : List ℕ) : Type 0 where
    pub complete : Complete commands lengths τ
    pub other :
        (ends_unclean (judged lengths (played commands lengths τ)).number ≡ true)
        ⊎ ((c : ℕ) × (c < rows commands) × (generation (played commands lengths τ) c ≢ generation (played commands lengths σ) c))

  -- Half of the evidence for a race: a legal, complete schedule with x before y (R60).
  pub record HasBefore (x y : ℕ) (τ : List ℕ) : Type 0 where
    pub complete : Complete commands lengths τ
    pub precedes : Precedes commands lengths x y τ

  -- ---- which schedules are written, over what reaches what

  module _ (ρ : ℕ → ℕ → Bool) where
    -- of a reuse fault (c₁, c₂): c₁ waits as long as it can (R62)
    abbrev pub against : Pair → List ℕ
    against p = apart_schedule commands lengths ρ p.first p.second

    -- of a race (x, y): x first, and y first (R62)
    abbrev pub first_first : Pair → List ℕ
    first_first p = apart_schedule commands lengths ρ p.second p.first

    abbrev pub second_first : Pair → List ℕ
    second_first p = apart_schedule commands lengths ρ p.first p.second

    -- of races, one after the other, end to end (R60)
    unfoldable pub both_ways : List Pair → List ℕ
    both_ways [] = []
    both_ways (p ∷ ps) = first_first p ++ (second_first p ++ both_ways ps)

-- All that is written for a verdict's number and a sheet: of the first reuse fault for 10 (R59, R62), of each race kept for 11 (R60, R62). Other verdicts write nothing (R61).
unfoldable pub evidence_of : (commands lengths : List ℕ) → (ℕ → ℕ → Bool) → ℕ → Sheet → List ℕ
evidence_of commands lengths ρ n s =
    cond (eqb n 10) (against commands lengths ρ (first_kept s)) (cond (eqb n 11) (both_ways commands lengths ρ (kept_pairs s)) [])

-- The room needs 32 × M numbers whatever the verdict (R39).
abbrev pub evidence_room : ℕ → ℕ
evidence_room m = 32 * m
