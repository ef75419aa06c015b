-- Counting.
use Rattle.std.specs.Prelude.{Bool, true, false, ℕ, zero, suc, ◌+◌}

-- 1 for a test that passes, 0 for one that does not.
abbrev pub bit : Bool → ℕ
bit true = 1
bit false = 0

-- How many of the numbers below n pass p.
unfoldable pub tally : ℕ → (ℕ → Bool) → ℕ
tally zero p = 0
tally (suc n) p = bit (p n) + tally n p
