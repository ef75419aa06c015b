-- The verdict of tables, offered generations and a table of what reaches what, in the order tested, and what the sheet then holds (R33, R34, R37, R81).
use Rattle.std.specs.Prelude.{◌≡◌, Bool, cond, List, [], ◌∷◌, ℕ, eqb, length}
use Rattle.tables.specs.Rows.{rows}
use Rattle.verdicts.specs.Verdicts.{tell, numbered}
use Rattle.verdicts.specs.declared.Told.{Told}
use Rattle.relation.specs.Table.{related}
use Rattle.verdicts.specs.FirstTold.{or_else}
use Rattle.sheet.specs.declared.Pair.{Pair}
use Rattle.sheet.specs.Sheet.{sheet_of}
use Rattle.faults.specs.declared.faults.Fault.TheVariants.{Reuse, Race}
use Rattle.findings.specs.declared.finding.Finding.{Finding}
use Rattle.rooms.specs.Refusals.{size_refusal}
use Rattle.rooms.specs.Rooms.{number_at}
use Rattle.faults.specs.Faults.{faults}

-- a fault's number with the first pair, or what is told else (R37)
abbrev pub first_pair : ℕ → List Pair → Told → Told
first_pair n [] else = else
first_pair n (p ∷ ps) else = tell n p.first p.second

-- the first list unless it is empty, and then the second (R33)
abbrev pub or_pairs : List Pair → List Pair → List Pair
or_pairs [] qs = qs
or_pairs (p ∷ ps) qs = p ∷ ps

-- 10: reuse fault. 11: race, looked for only when there is no reuse fault (R33).
module _ (commands lengths : List ℕ) (g : ℕ → ℕ) (ρ : ℕ → ℕ → Bool) where
  -- what is told of them, with its place (R33, R37)
  abbrev pub fault_told : Told
  fault_told = first_pair 10 (faults commands lengths g ρ Reuse) (first_pair 11 (faults commands lengths g ρ Race) (tell 0 0 0))

  -- the pairs, of which there are as many as the total (R33, R34)
  abbrev pub fault_pairs : List Pair
  fault_pairs = or_pairs (faults commands lengths g ρ Reuse) (faults commands lengths g ρ Race)

-- The contract of `find_faults`, of any numbers in the tables: 1 or 4, by the lengths alone, with an empty sheet; or 10, 11 or 0 with the faults over the numbers and the table in the rooms (R81).
pub record Finds (commands lengths generations relation : List ℕ) (r : Finding) : Type 0 where
  pub verdict :
      numbered r.verdict
      ≡ or_else (size_refusal commands (length relation) (length generations))
      (fault_told commands lengths (number_at generations) (related relation (rows commands)))
  pub sheet :
      r.sheet
      ≡ sheet_of
      (cond (eqb (size_refusal commands (length relation) (length generations)).number 0)
      (fault_pairs commands lengths (number_at generations) (related relation (rows commands)))
      [])
