-- Two answers that meet the contract of a public function for the same inputs are equal. Assumes nothing.
use mathlib.Core.Path.{◌≡◌, sym, ◌∙◌}
use mathlib.Core.Bool.{Bool}
use Prim.Native.Nat.{ℕ}
use Rattle.barriers.specs.declared.barrier.Barrier.{Barrier}
use Rattle.barriers.specs.declared.barrier.Registration.{Registration}
use Rattle.barriers.specs.Promise.{AnswersMore, AnswersRegister, AnswersIsSet}

pub more_one : (n : ℕ) {r s : ℕ} → AnswersMore n r → AnswersMore n s → r ≡ s
more_one n e f = e ∙ sym f

pub register_one : (b : Barrier) (count : ℕ) {r s : Registration} → AnswersRegister b count r → AnswersRegister b count s → r ≡ s
register_one b count e f = e ∙ sym f

pub is_set_one : (b : Barrier) {r s : Bool} → AnswersIsSet b r → AnswersIsSet b s → r ≡ s
is_set_one b e f = e ∙ sym f
