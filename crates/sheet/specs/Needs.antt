-- What the parts of a search ask for and pass on; nothing public speaks of it.
use Rattle.std.specs.Prelude.{List, [], ◌∷◌}
use Rattle.sheet.specs.declared.Pair.{Pair}
use Rattle.sheet.specs.declared.Sheet.{Sheet}
use Rattle.sheet.specs.Sheet.{added}

-- a list of pairs more, one after the other
unfoldable pub add_all : Sheet → List Pair → Sheet
add_all s [] = s
add_all s (p ∷ ps) = add_all (added s p) ps
