-- A room that tells, for each row, where its thread begins (R3).
use Rattle.std.specs.Prelude.{◌≡◌, Bool, List, ℕ, ◌<◌, eqb, length, get_or}
use Rattle.tables.specs.Rows.{first_row, thread_of}

-- where the thread of row c begins (R3); for rows past all lengths that is where the lengths end (R80)
abbrev pub head_of : List ℕ → ℕ → ℕ
head_of lengths c = first_row lengths (thread_of lengths c)

-- row c is its own head, by a room of heads
abbrev pub own_head : List ℕ → ℕ → Bool
own_head heads c = eqb c (get_or heads c 0)

-- the rows below n have their heads
pub record Headed (lengths heads : List ℕ) (n : ℕ) : Type 0 where
  pub head : (c : ℕ) → c < n → get_or heads c 0 ≡ head_of lengths c

-- each row has its head, as far as the room goes
pub record Heads (lengths before after : List ℕ) : Type 0 where
  pub len : length after ≡ length before
  pub all : Headed lengths after (length before)
