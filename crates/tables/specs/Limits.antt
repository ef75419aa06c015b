-- The limits of the tables (R4, R5, R7, R8). The table type's constants are held to these numbers.
use Rattle.std.specs.Prelude.{ℕ}

-- at most so many rows (R7)
unfoldable pub most_rows : ℕ
most_rows = 512

-- 1 to so many threads (R7)
unfoldable pub most_threads : ℕ
most_threads = 64

-- addresses are below this (R4)
unfoldable pub addresses : ℕ
addresses = 4096

-- barriers are below this (R5)
unfoldable pub barriers : ℕ
barriers = 16

-- counts are 1 to this (R5)
unfoldable pub most_count : ℕ
most_count = 1024
