-- What each public function promises.
use Rattle.std.specs.Prelude.{◌≡◌}
use Rattle.verdicts.specs.declared.Refusal.{Refusal}
use Rattle.verdicts.specs.declared.Verdict.{Verdict}
use Rattle.verdicts.specs.declared.Verdict.TheVariants.{Refused}
use Rattle.verdicts.specs.declared.Told.{Told}
use Rattle.verdicts.specs.Verdicts.{numbered}

-- `Verdict::from`
abbrev pub AnswersFrom : (refusal : Refusal) (r : Verdict) → Type 0
AnswersFrom refusal r = r ≡ Refused refusal

-- `Verdict::told`
abbrev pub AnswersTold : (verdict : Verdict) (r : Told) → Type 0
AnswersTold verdict r = r ≡ numbered verdict
