-- What the parts ask for and pass on; nothing public speaks of it.
use Rattle.std.specs.Prelude.{ℕ, ◌+◌, ◌*◌, ◌≤◌, ◌<◌}

-- a room of n words has row i
abbrev pub RowIn : ℕ → ℕ → ℕ → Type 0
RowIn n w i = i * w + w ≤ n

-- and j is a bit of a row
pub record BitIn (n w i j : ℕ) : Type 0 where
  pub row : RowIn n w i
  pub bit : j < 32 * w

-- two rows to join: both are there
pub record TwoRows (n w i k : ℕ) : Type 0 where
  pub into : RowIn n w i
  pub from : RowIn n w k
