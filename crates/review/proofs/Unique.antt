-- Any two answers that meet the contract of a review are equal: verdict, sheet and both rooms. Assumes nothing.
use mathlib.Core.Path.{◌≡◌, sym, ap, ap₂, ◌∙◌}
use mathlib.Core.Logic.{⊎_elim}
use mathlib.Core.Bool.{true, false}
use mathlib.Core.List.{List}
use Prim.Native.Nat.{ℕ}
use Rattle.verdicts.specs.Verdicts.{numbered}
use Rattle.verdicts.specs.Numbers.{fills}
use Rattle.verdicts.specs.declared.Verdict.{Verdict}
use Rattle.verdicts.proofs.Verdicts.{numbered_one}
use Rattle.relation.proofs.Truth.{split}
use Rattle.relation.specs.Bits.{Words}
use Rattle.relation.proofs.Rooms.{holds_one}
use Rattle.sheet.specs.declared.Sheet.{Sheet}
use Rattle.findings.specs.declared.finding.Finding.{Finding}
use Rattle.review.specs.Agreement.{number, Reviewed}
use Rattle.review.proofs.Telling.{verdict_is, sheet_is, empty_is}

module _ (commands lengths σ relation room : List ℕ) (a b : Finding) {ra ga rb gb : List ℕ} (wa : Words ra) (wb : Words rb)
    (A : Reviewed commands lengths σ relation room a ra ga) (B : Reviewed commands lengths σ relation room b rb gb) where
  same_verdict : a.verdict ≡ b.verdict
  same_verdict = numbered_one _ _ (verdict_is A.demand₂ ∙ sym (verdict_is B.demand₂))

  same_number : number a ≡ number b
  same_number = ap (λ (v : Verdict). (numbered v).number) same_verdict

  -- words of 32 bits stand in the relation rooms
  pub review_one : (a ≡ b) × (ra ≡ rb) × (ga ≡ gb)
  review_one =
      ⊎_elim
      (λ (t : fills (number a) ≡ true).
      let u : fills (number b) ≡ true = ap fills (sym same_number) ∙ t in (
        ap₂ (λ (v : Verdict) (s : Sheet). record { verdict = v; sheet = s }) same_verdict (sheet_is A.demand₂ t ∙ sym (sheet_is B.demand₂ u)),
        holds_one _ _ _ _ _ wa wb (A.demand₂.relation_holds t) (B.demand₂.relation_holds u),
        A.demand₂.generations_hold t ∙ sym (B.demand₂.generations_hold u),
      ))
      (λ (t : fills (number a) ≡ false).
      let u : fills (number b) ≡ false = ap fills (sym same_number) ∙ t in (
        ap₂ (λ (v : Verdict) (s : Sheet). record { verdict = v; sheet = s }) same_verdict (empty_is A.demand₁ t ∙ sym (empty_is B.demand₁ u)),
        A.demand₁.relation_kept t ∙ sym (B.demand₁.relation_kept u),
        A.demand₁.generations_kept t ∙ sym (B.demand₁.generations_kept u),
      ))
      (split (fills (number a)))
