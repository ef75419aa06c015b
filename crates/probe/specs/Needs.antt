-- What the parts ask for and pass on; nothing public speaks of it.
use Rattle.std.specs.Prelude.{◌≡◌, List, ℕ, ◌≤◌, ◌<◌, length, get_or}
use Rattle.verdicts.specs.declared.Told.{Told}
use Rattle.sheet.specs.Sheet.{most_kept, pair}
use Rattle.sheet.specs.declared.Pair.{Pair}
use Rattle.probe.specs.Numbers.{largest}

-- each of the four numbers is one that a place holds
pub record Counted (t : Told) (a b : ℕ) : Type 0 where
  pub place : t.place ≤ largest
  pub also : t.also ≤ largest
  pub third : a ≤ largest
  pub fourth : b ≤ largest

-- and so is each number of a sheet's pairs
pub record PairsCounted (ps : List Pair) : Type 0 where
  pub many : length ps ≡ most_kept
  pub each : (k : ℕ) → k < most_kept → ((get_or ps k (pair 0 0)).first ≤ largest) × ((get_or ps k (pair 0 0)).second ≤ largest)
