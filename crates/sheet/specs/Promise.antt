-- What each public function promises.
use Rattle.std.specs.Prelude.{◌≡◌, [], ℕ, min}
use Rattle.sheet.specs.declared.Pair.{Pair}
use Rattle.sheet.specs.declared.Sheet.{Sheet}
use Rattle.sheet.specs.Sheet.{most_kept, sheet_of, added}

-- `kept`
abbrev pub AnswersKept : (total r : ℕ) → Type 0
AnswersKept total r = r ≡ min total most_kept

-- `Sheet::empty`
abbrev pub AnswersEmpty : (r : Sheet) → Type 0
AnswersEmpty r = r ≡ sheet_of []

-- `Sheet::add`, and `add_to` of the lent sheet
abbrev pub AddsPair : (sheet : Sheet) (pair : Pair) (sheet' : Sheet) → Type 0
AddsPair sheet pair sheet' = sheet' ≡ added sheet pair
