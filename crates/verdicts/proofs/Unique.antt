-- Two answers that meet the contract of a public function for the same input are equal. Assumes nothing.
use mathlib.Core.Path.{◌≡◌, sym, ◌∙◌}
use Rattle.verdicts.specs.declared.Refusal.{Refusal}
use Rattle.verdicts.specs.declared.Verdict.{Verdict}
use Rattle.verdicts.specs.declared.Told.{Told}
use Rattle.verdicts.specs.Promise.{AnswersFrom, AnswersTold}

pub from_one : (refusal : Refusal) {r s : Verdict} → AnswersFrom refusal r → AnswersFrom refusal s → r ≡ s
from_one refusal e f = e ∙ sym f

pub told_one : (v : Verdict) {r s : Told} → AnswersTold v r → AnswersTold v s → r ≡ s
told_one v e f = e ∙ sym f
