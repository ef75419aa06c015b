-- What the public function promises (R82).
use Rattle.std.specs.Prelude.{Bool, List, ℕ}
use Rattle.relation.specs.Chains.{Chain}
use Rattle.relation.specs.Table.{Related, Writes}

-- `close`: the chains of one edge or more (R82)
abbrev pub Closes : (room : List ℕ) (m : ℕ) (room' : List ℕ) (r : Bool) → Type 0
Closes room m room' r = Writes (Chain (Related room m)) room room' m r
