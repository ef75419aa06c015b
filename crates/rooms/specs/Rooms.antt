-- Numbers in a room by their place (R80).
use Rattle.std.specs.Prelude.{List, ℕ, get_or}

-- numbers in a room, or in a list, by their place, and 0 past the end (R80)
abbrev pub number_at : List ℕ → ℕ → ℕ
number_at room c = get_or room c 0
