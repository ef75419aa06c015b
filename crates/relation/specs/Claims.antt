-- What is proved of chains: the table of all rounds decides them. Chains, in proofs/, has both, under the names `decides` and `decides_reach`.
use Rattle.std.specs.Prelude.{◌≡◌, ◌↔◌, Bool, true, ℕ, ◌<◌}
use Rattle.relation.specs.Chains.{Chain, Reach, On, rounds, or_same}

-- All rounds over a table hold exactly the chains of its edges (R82).
abbrev pub RoundsDecide : Type 0
RoundsDecide = (f : ℕ → ℕ → Bool) (n i j : ℕ) → i < n → j < n → (rounds f n i j ≡ true) ↔ Chain (On n f) i j

-- And, with each number at itself, exactly what can be reached (R26).
abbrev pub RoundsReach : Type 0
RoundsReach = (f : ℕ → ℕ → Bool) (n i j : ℕ) → i < n → j < n → (rounds (or_same f) n i j ≡ true) ↔ Reach (On n f) i j
