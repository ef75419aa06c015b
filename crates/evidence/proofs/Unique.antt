-- Any two answers that meet the contract of a review with evidence are equal: verdict, sheet, entries and the three rooms. Assumes nothing.
use mathlib.Core.Path.{◌≡◌, sym, ap, ap₂, ◌∙◌}
use mathlib.Core.Logic.{by_cases, ◌≢◌}
use mathlib.Core.List.{List}
use Prim.Native.Nat.{ℕ}
use native.Mathlib.Decide.{ℕ_discrete}
use lib.ListN.{length}
use Rattle.tables.specs.Over.{over}
use Rattle.verdicts.specs.declared.Verdict.{Verdict}
use Rattle.verdicts.proofs.Verdicts.{numbered_one}
use Rattle.relation.specs.Bits.{Words}
use Rattle.sheet.specs.declared.Sheet.{Sheet}
use Rattle.findings.specs.declared.finding.Finding.{Finding}
use Rattle.review.specs.Judge.{reaches}
use Rattle.review.specs.Agreement.{number}
use Rattle.review.proofs.Unique.{review_one}
use Rattle.evidence.specs.declared.door.Evidence.{Evidence}
use Rattle.evidence.specs.Evidence.{evidence_of}
use Rattle.evidence.specs.Doors.{refusal_of, Evidenced}

module _ (commands lengths σ relation generations room : List ℕ) (a b : Evidence) {ra ga ea rb gb eb : List ℕ} (wa : Words ra) (wb : Words rb)
    (A : Evidenced commands lengths σ relation generations room a ra ga ea) (B : Evidenced commands lengths σ relation generations room b rb gb eb) where
  -- words of 32 bits stand in the relation rooms
  pub evidence_one : (a ≡ b) × (ra ≡ rb) × (ga ≡ gb) × (ea ≡ eb)
  evidence_one =
      by_cases (ℕ_discrete (refusal_of commands lengths relation generations room).number 0)
      (λ (z : (refusal_of commands lengths relation generations room).number ≡ 0).
      let (f, q, g) = review_one commands lengths σ relation generations a.finding b.finding wa wb (A.reviewed z) (B.reviewed z) in
      let x = (A.holds z).written in
      let y = (B.holds z).written in
      let s = ap (λ (f : Finding). evidence_of commands lengths (reaches commands lengths σ) (number f) f.sheet) f in
      let n : a.entries ≡ b.entries = x.long ∙ ap length s ∙ sym y.long in (
        ap₂ (λ (f : Finding) (n : ℕ). record { finding = f; entries = n }) f n,
        q,
        g,
        x.room ∙ ap (λ (τ : List ℕ). over τ room) s ∙ sym y.room,
      ))
      (λ (m : (refusal_of commands lengths relation generations room).number ≢ 0).
      let (d, x) = A.refused m in
      let (e, y) = B.refused m in
      let f : a.finding ≡ b.finding =
      ap₂ (λ (v : Verdict) (s : Sheet). record { verdict = v; sheet = s }) (numbered_one _ _ (d ∙ sym e)) (x.sheet ∙ sym y.sheet) in (
        ap₂ (λ (f : Finding) (n : ℕ). record { finding = f; entries = n }) f (x.entries ∙ sym y.entries),
        x.relation_kept ∙ sym y.relation_kept,
        x.generations_kept ∙ sym y.generations_kept,
        x.room_kept ∙ sym y.room_kept,
      ))
