-- What the parts ask for and pass on; nothing public speaks of it.
use Rattle.std.specs.Prelude.{◌≡◌, Bool, ◌&&◌, ◌||◌, List, ℕ, ◌*◌, ◌≤◌, ◌<◌, ltb, length, get_or}
use Rattle.relation.specs.Bits.{bit_at}

-- the bits of the rows below m are f after; the words after those rows are as before
pub record RowsAre (before after : List ℕ) (w m : ℕ) (f : ℕ → ℕ → Bool) : Type 0 where
  pub len : length after ≡ length before
  pub bits : (i j : ℕ) → i < m → j < 32 * w → bit_at after w i j ≡ f i j
  pub kept : (p : ℕ) → m * w ≤ p → get_or after p 0 ≡ get_or before p 0

-- row k joined into row i where row i has bit k only
abbrev pub joined_if : List ℕ → ℕ → ℕ → ℕ → ℕ → Bool
joined_if room w k i j = bit_at room w i j || (bit_at room w i k && bit_at room w k j)

-- no bit from m on
abbrev pub trimmed : List ℕ → ℕ → ℕ → ℕ → ℕ → Bool
trimmed room w m i j = ltb j m && bit_at room w i j
