-- The exhibits of races, pair by pair. Assumes nothing.
use mathlib.Core.Path.{◌≡◌, ap}
use mathlib.Core.Bool.{Bool}
use mathlib.Core.List.{List, [], ◌++◌}
use Prim.Native.Nat.{ℕ, ◌+◌, ◌≤◌, ◌<◌}
use native.Mathlib.Numerals.{add-one}
use lib.ListN.{length, get_or, drop, drop_of_length-le}
use lib.Seq.{drop-cons}
use Rattle.sheet.specs.declared.Pair.{Pair}
use Rattle.sheet.specs.Sheet.{pair}
use Rattle.exhibits.specs.Exhibits.{order_exhibit, race_exhibits}

module _ (commands lengths : List ℕ) (ρ : ℕ → ℕ → Bool) (ps : List Pair) (k : ℕ) where
  abbrev p : Pair
  p = get_or ps k (pair 0 0)

  pub races_next : k < length ps
      → race_exhibits commands lengths ρ (drop k ps)
      ≡ order_exhibit commands lengths ρ p.first p.second ++ order_exhibit commands lengths ρ p.second p.first ++ race_exhibits commands lengths ρ (drop (k + 1) ps)
  unfolding race_exhibits
  races_next l = rw add-one (ap (race_exhibits commands lengths ρ) (drop-cons ps k (pair 0 0) l))

  pub races_end : length ps ≤ k → race_exhibits commands lengths ρ (drop k ps) ≡ []
  unfolding race_exhibits
  races_end l = ap (race_exhibits commands lengths ρ) (drop_of_length-le ps l)
