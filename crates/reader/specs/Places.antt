-- A place in a text: the rest of the text from there on, and where that stands in memory (R49).
use Rattle.std.specs.Prelude.{List, ℕ, ◌+◌, min, length, drop}

-- a place past the text is the text's end (R49)
abbrev pub place_in : List ℕ → ℕ → ℕ
place_in text at = min at (length text)

abbrev pub rest_in : List ℕ → ℕ → List ℕ
rest_in text at = drop (place_in text at) text

-- n bytes on from a place in memory, which is a block and an offset in it (R49)
abbrev pub ahead : ℕ × ℕ → ℕ → ℕ × ℕ
ahead x n = (x.0, n + x.1)
