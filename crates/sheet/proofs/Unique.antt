-- Any two outcomes that meet the contract of a function are equal. Assumes nothing.
use mathlib.Core.Path.{◌≡◌, sym, ◌∙◌}
use Prim.Native.Nat.{ℕ}
use Rattle.sheet.specs.declared.Pair.{Pair}
use Rattle.sheet.specs.declared.Sheet.{Sheet}
use Rattle.sheet.specs.Promise.{AnswersKept, AnswersEmpty, AddsPair}

pub empty_one : {a b : Sheet} → AnswersEmpty a → AnswersEmpty b → a ≡ b
empty_one A B = A ∙ sym B

-- of the sheet that is answered, or left where it was lent
pub add_one : (sheet : Sheet) (pair : Pair) {a b : Sheet} → AddsPair sheet pair a → AddsPair sheet pair b → a ≡ b
add_one sheet pair A B = A ∙ sym B

pub kept_one : (total : ℕ) {a b : ℕ} → AnswersKept total a → AnswersKept total b → a ≡ b
kept_one total A B = A ∙ sym B
