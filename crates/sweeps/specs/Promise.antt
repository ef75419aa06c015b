-- What the public function promises (R26, R82).
use Rattle.std.specs.Prelude.{Bool, List, ℕ}
use Rattle.relation.specs.Chains.{Reach}
use Rattle.relation.specs.Table.{Writes}
use Rattle.sweeps.specs.Pairs.{PairIn}

-- `put_reach`, whatever `parts` holds (R26, R82)
abbrev pub PutsReach : (room : List ℕ) (m : ℕ) (pairs : List ℕ) (room' : List ℕ) (r : Bool) → Type 0
PutsReach room m pairs room' r = Writes (Reach (PairIn pairs m)) room room' m r
