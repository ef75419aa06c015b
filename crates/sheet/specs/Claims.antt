-- What is proved of the sheet of a list. Sheets, in proofs/, has a proof of each, under the same name in small letters.
use Rattle.std.specs.Prelude.{◌≡◌, List, length, take}
use Rattle.sheet.specs.declared.Pair.{Pair}
use Rattle.sheet.specs.Sheet.{most_kept, sheet_of, kept_pairs}

-- The total counts every pair (R34).
abbrev pub SheetTotal : Type 0
SheetTotal = (ps : List Pair) → (sheet_of ps).total ≡ length ps

-- The pairs kept are the first sixteen (R35).
abbrev pub KeptAre : Type 0
KeptAre = (ps : List Pair) → kept_pairs (sheet_of ps) ≡ take most_kept ps
