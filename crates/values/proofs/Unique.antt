-- Two answers that meet the contract of a public function for the same inputs are equal. Assumes nothing.
use Rattle.std.proofs.Common.{◌≡◌, ℕ, List, sym, ◌∙◌}
use Rattle.warps.specs.Language.{Mem}
use Rattle.values.specs.Promise.{AnswersValue, AnswersActingLanes}

pub value_one : (x : List ℕ) (root lane : ℕ) (cells : Mem) {r s : ℕ} → AnswersValue x root lane cells r → AnswersValue x root lane cells s → r ≡ s
value_one x root lane cells e f = e ∙ sym f

pub acting_one : (x : List ℕ) (root mask : ℕ) (cells : Mem) {r s : ℕ} → AnswersActingLanes x root mask cells r → AnswersActingLanes x root mask cells s → r ≡ s
acting_one x root mask cells e f = e ∙ sym f
