-- Numbers in decimal, as bytes (R55).
use Rattle.std.specs.Prelude.{cond, List, [], ◌∷◌, ◌++◌, ℕ, zero, suc, ◌+◌, ◌/◌, ◌%◌, ltb}

-- the figure of a number below 10, as a byte
abbrev pub figure : ℕ → ℕ
figure d = 48 + d

-- What stands before the last figure, and then that. No number has more figures than k where it is at most k.
unfoldable pub figures_to : ℕ → ℕ → List ℕ
figures_to zero n = figure n ∷ []
figures_to (suc k) n = cond (ltb n 10) (figure n ∷ []) (figures_to k (n / 10) ++ (figure (n % 10) ∷ []))

-- a number in decimal, with no leading zero but 0 itself (R55)
unfoldable pub figures : ℕ → List ℕ
figures n = figures_to n n
