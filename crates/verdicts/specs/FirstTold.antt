-- Verdicts in the order tested (R37).
use Rattle.std.specs.Prelude.{cond, eqb}
use Rattle.verdicts.specs.declared.Told.{Told}

-- the first verdict unless its number is 0, and then the second (R37)
abbrev pub or_else : Told → Told → Told
or_else a b = cond (eqb a.number 0) b a
