-- What is proved of the tables: each row has one thread (R3). Rows, in proofs/, has both, under the names `home` and `only`.
use Rattle.std.specs.Prelude.{◌≡◌, List, ℕ, ◌≤◌, ◌<◌, length}
use Rattle.tables.specs.Rows.{total, first_row, end_row, thread_of}

-- row c stands in thread t
pub record Home (lengths : List ℕ) (c t : ℕ) : Type 0 where
  pub there : t < length lengths
  pub low : first_row lengths t ≤ c
  pub high : c < end_row lengths t

-- Each row stands in the thread that `thread_of` says (R3).
abbrev pub HasHome : Type 0
HasHome = (lengths : List ℕ) (c : ℕ) → c < total lengths → Home lengths c (thread_of lengths c)

-- It stands in no other, and no row past the lengths stands in any (R3).
abbrev pub OnlyHome : Type 0
OnlyHome = (lengths : List ℕ) (c t : ℕ) → Home lengths c t → (thread_of lengths c ≡ t) × (c < total lengths)
