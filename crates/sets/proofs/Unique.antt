-- Two answers that meet the contract of a public function for the same inputs are equal. Assumes nothing.
use mathlib.Core.Path.{◌≡◌, sym, ◌∙◌}
use mathlib.Core.Bool.{Bool}
use Prim.Native.Nat.{ℕ}
use Rattle.std.proofs.Common.{Option}
use Rattle.sets.specs.declared.Set.{Set}
use Rattle.sets.specs.Promise.{AnswersSetNone, AnswersHas, AnswersPut, AnswersLowestBut}

pub none_one : {r s : Set} → AnswersSetNone r → AnswersSetNone s → r ≡ s
none_one e f = e ∙ sym f

pub has_one : (a : Set) (t : ℕ) {r s : Bool} → AnswersHas a t r → AnswersHas a t s → r ≡ s
has_one a t e f = e ∙ sym f

pub put_one : (a : Set) (t : ℕ) (on : Bool) {r s : Set} → AnswersPut a t on r → AnswersPut a t on s → r ≡ s
put_one a t on e f = e ∙ sym f

pub lowest_but_one : (a b : Set) {r s : Option ℕ} → AnswersLowestBut a b r → AnswersLowestBut a b s → r ≡ s
lowest_but_one a b e f = e ∙ sym f
