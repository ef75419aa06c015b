-- Bytes without a zero. What is printed has none, so in a room of zeros it ends before the first.
use Rattle.std.specs.Prelude.{◌≡◌, Bool, not, List, ℕ, eqb, length}
use Rattle.spelling.specs.Bytes.{run}

abbrev pub nonzero : ℕ → Bool
nonzero b = not (eqb b 0)

-- how many bytes stand before the first zero, or in all
abbrev pub length_before_zero : List ℕ → ℕ
length_before_zero bytes = run nonzero bytes

abbrev pub NoZero : List ℕ → Type 0
NoZero bytes = length_before_zero bytes ≡ length bytes
