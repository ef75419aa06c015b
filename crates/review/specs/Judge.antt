-- The verdict, in the order tested (D2, R26, R37).
use Rattle.std.specs.Prelude.{◌≡◌, ◌↔◌, Bool, true, List, ℕ, ◌<◌}
use Rattle.verdicts.specs.declared.Told.{Told}
use Rattle.tables.specs.Rows.{rows}
use Rattle.schedules.specs.HappensBefore.{Reaches, reach}
use Rattle.verdicts.specs.FirstTold.{or_else}
use Rattle.steps.specs.Going.{played, generation}
use Rattle.steps.specs.Ending.{judged}
use Rattle.programs.specs.Program.{program}
use Rattle.rooms.specs.Refusals.{review_refusal}
use Rattle.findings.specs.Findings.{fault_told}

module _ (commands lengths schedule : List ℕ) where
  -- the generations of a schedule's commands (R13)
  abbrev pub generations_by : ℕ → ℕ
  generations_by = generation (played commands lengths schedule)

  -- A table of commands tells what reaches what over these generations: exactly what stands in the least relation (D2, R26).
  pub record TellsReach (ρ : ℕ → ℕ → Bool) : Type 0 where
    pub exactly : (x y : ℕ) → x < rows commands → y < rows commands → (ρ x y ≡ true) ↔ Reaches (program commands lengths) generations_by x y

  -- The verdict, of tables, a schedule, a table of what reaches what, and the lengths of the two rooms (D2, R37).
  abbrev pub verdict_by : (ℕ → ℕ → Bool) → (relation_length generation_length : ℕ) → Told
  verdict_by ρ relation_length generation_length =
      or_else (review_refusal commands lengths relation_length generation_length)
      (or_else (judged lengths (played commands lengths schedule)) (fault_told commands lengths generations_by ρ))

  -- ---- as it can be computed

  -- One such table, by Warshall's rounds (`RoundsTell` of Agreement), and the verdict by it (R26, R37).
  abbrev pub reaches : ℕ → ℕ → Bool
  reaches = reach (program commands lengths) generations_by

  unfoldable pub verdict_of : ℕ → ℕ → Told
  verdict_of = verdict_by reaches
