-- What is proved of numbers. Numbers, in proofs/, has it, under the name `number_exactly`.
use Rattle.std.specs.Prelude.{◌≡◌, ◌↔◌, Some, List, ℕ}
use Rattle.spelling.specs.Numbers.{Means, numeral_of}

-- Bytes are read as a number exactly when they mean it (R45).
abbrev pub NumberExactly : Type 0
NumberExactly = (w : List ℕ) (n : ℕ) → (numeral_of w ≡ Some n) ↔ Means w n
