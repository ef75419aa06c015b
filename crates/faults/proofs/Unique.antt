-- Any two answers that meet the contract of a door are equal. Assumes nothing.
use mathlib.Core.Path.{◌≡◌, sym, ◌∙◌}
use mathlib.Core.Bool.{Bool}
use mathlib.Core.List.{List}
use Prim.Native.Nat.{ℕ}
use Rattle.sheet.specs.declared.Pair.{Pair}
use Rattle.faults.specs.declared.faults.Fault.{Fault}
use Rattle.faults.specs.declared.faults.Seen.{Seen}
use Rattle.faults.specs.Promise.{AnswersPairOf, AnswersIsFault}

pub pair_of_one : (f : Fault) (i j : ℕ) {a b : Pair} → AnswersPairOf f i j a → AnswersPairOf f i j b → a ≡ b
pair_of_one f i j A B = A ∙ sym B

pub is_fault_one : (f : Fault) (relation : List ℕ) (m : ℕ) (outer inner : Seen) {a b : Bool} → AnswersIsFault f relation m outer inner a
    → AnswersIsFault f relation m outer inner b → a ≡ b
is_fault_one f relation m outer inner A B = A ∙ sym B
