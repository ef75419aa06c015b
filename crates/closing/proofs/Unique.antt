-- Any two outcomes that meet the contract of `close` are equal. Assumes nothing.
use mathlib.Core.Path.{◌≡◌}
use mathlib.Core.Bool.{Bool}
use mathlib.Core.List.{List}
use Prim.Native.Nat.{ℕ}
use Rattle.relation.specs.Bits.{Words}
use Rattle.relation.specs.Chains.{Chain}
use Rattle.relation.specs.Table.{Related}
use Rattle.relation.proofs.Rooms.{writes_one}
use Rattle.closing.specs.Promise.{Closes}

-- words of 32 bits stand in the rooms
pub close_one : (room : List ℕ) (m : ℕ) (r s : List ℕ) (x y : Bool) → Words r → Words s → Closes room m r x → Closes room m s y → (x ≡ y) × (r ≡ s)
close_one room m r s = writes_one (Chain (Related room m)) room r s m
