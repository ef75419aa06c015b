-- Words.
use Rattle.std.specs.Prelude.{Bool, true, false, ◌&&◌, List, [], ◌∷◌, ℕ, eqb}

-- are the bytes the same?
unfoldable pub same_bytes : List ℕ → List ℕ → Bool
same_bytes [] [] = true
same_bytes [] (c ∷ w) = false
same_bytes (b ∷ s) [] = false
same_bytes (b ∷ s) (c ∷ w) = eqb b c && same_bytes s w
