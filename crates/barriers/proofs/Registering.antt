-- Counters, and what a registration meets, from the tests. Assumes nothing.
use mathlib.Core.Path.{◌≡◌}
use mathlib.Core.Logic.{◌≢◌}
use Prim.Native.Nat.{ℕ, ◌+◌, ◌≤◌, ◌<◌}
use borrow.Author.Tests.{eq-eqb, ne_eqb, lt-ltb, le-ltb}
use Rattle.barriers.specs.declared.barrier.Phase.TheVariants.{Unset, Expecting}
use Rattle.barriers.specs.declared.barrier.Barrier.{Barrier}
use Rattle.barriers.specs.declared.barrier.Met.TheVariants.{Clash}
use Rattle.barriers.specs.Counting.{top, counted}
use Rattle.barriers.specs.Barrier.{one_more_of, registration}

-- ---- counters

-- a counter that is not at its largest goes up
pub counted_more : (n : ℕ) → n < top → counted n ≡ n + 1
unfolding counted
counted_more n l = rw (lt-ltb n top l)

pub counted_top : (n : ℕ) → top ≤ n → n ≡ counted n
unfolding counted
counted_top n l = rw (le-ltb n top l)

-- ---- a barrier

module _ (b : Barrier) (count : ℕ) where
  pub registers_unset : b.phase ≡ Unset → one_more_of count 0 b.done ≡ registration b count
  unfolding registration
  registers_unset e = rw e

  module _ {n got : ℕ} (e : b.phase ≡ Expecting n got) where
    pub registers_other : n ≢ count → record { met = Clash; after = b } ≡ registration b count
    unfolding registration
    registers_other m = rw (e, ne_eqb n count m)

    pub registers_same : n ≡ count → one_more_of count got b.done ≡ registration b count
    unfolding registration
    registers_same m = rw (e, eq-eqb n count m)
