-- Counters of 32 bits (R80).
use Rattle.std.specs.Prelude.{cond, ℕ, ◌+◌, ltb}

-- the largest number of 32 bits
abbrev pub top : ℕ
top = 4294967295

-- one more; a counter at the largest number stays there (R80)
unfoldable pub counted : ℕ → ℕ
counted n = cond (ltb n top) (n + 1) n
