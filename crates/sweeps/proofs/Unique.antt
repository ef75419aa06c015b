-- Any two outcomes that meet the contract of `put_reach` are equal. Assumes nothing.
use mathlib.Core.Path.{◌≡◌}
use mathlib.Core.Bool.{Bool}
use mathlib.Core.List.{List}
use Prim.Native.Nat.{ℕ}
use Rattle.relation.specs.Chains.{Reach}
use Rattle.relation.specs.Bits.{Words}
use Rattle.relation.proofs.Rooms.{writes_one}
use Rattle.sweeps.specs.Pairs.{PairIn}
use Rattle.sweeps.specs.Promise.{PutsReach}

-- words of 32 bits stand in the rooms
pub put_reach_one : (room : List ℕ) (m : ℕ) (pairs r s : List ℕ) (x y : Bool) → Words r → Words s → PutsReach room m pairs r x → PutsReach room m pairs s y
    → (x ≡ y) × (r ≡ s)
put_reach_one room m pairs r s = writes_one (Reach (PairIn pairs m)) room r s m
