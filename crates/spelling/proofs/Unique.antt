-- Two answers that meet the contract of a public function for the same inputs are equal. Assumes nothing.
use mathlib.Core.Path.{◌≡◌, sym, ◌∙◌}
use mathlib.Core.Bool.{Bool}
use mathlib.Core.List.{List}
use Prim.Native.Nat.{ℕ}
use Rattle.std.specs.Prelude.{Option}
use Rattle.spelling.specs.declared.bytes.Class.{Class}
use Rattle.spelling.specs.Promise.{AnswersClassOf, AnswersRunOf, AnswersSame, AnswersReadNumber}

pub class_of_one : (byte : ℕ) {r s : Class} → AnswersClassOf byte r → AnswersClassOf byte s → r ≡ s
class_of_one byte e f = e ∙ sym f

pub run_of_one : (bytes : List ℕ) (class : ℕ) {r s : ℕ} → AnswersRunOf bytes class r → AnswersRunOf bytes class s → r ≡ s
run_of_one bytes class e f = e ∙ sym f

pub same_one : (bytes word : List ℕ) {r s : Bool} → AnswersSame bytes word r → AnswersSame bytes word s → r ≡ s
same_one bytes word e f = e ∙ sym f

pub read_number_one : (bytes : List ℕ) {r s : Option ℕ} → AnswersReadNumber bytes r → AnswersReadNumber bytes s → r ≡ s
read_number_one bytes e f = e ∙ sym f
