-- Any two answers that meet a door's contract are equal. Assumes nothing.
use mathlib.Core.Path.{◌≡◌, sym, ap, ap₂, ◌∙◌}
use mathlib.Core.List.{List}
use Prim.Native.Nat.{ℕ}
use Rattle.std.specs.Prelude.{Result, Ok, Err}
use Rattle.verdicts.specs.declared.Refusal.{Refusal}
use Rattle.verdicts.specs.declared.Told.{Told}
use Rattle.verdicts.specs.declared.Verdict.{Verdict}
use Rattle.verdicts.proofs.Verdicts.{numbered_one, refused_one, refused_some}
use Rattle.replay.specs.declared.offered.Judged.{Judged}
use Rattle.replay.specs.Doors.{Replays, WritesBy}

pub judge_one : (commands lengths σ : List ℕ) (a b : Judged) → Replays commands lengths σ a → Replays commands lengths σ b → a ≡ b
judge_one commands lengths σ a b A B =
    ap₂ (λ (v : Verdict) (g : List ℕ). record { verdict = v; generations = g }) (numbered_one _ _ (A.verdict ∙ sym B.verdict)) (A.generations ∙ sym B.generations)

module _ (σ commands lengths room : List ℕ) where
  pub write_one : (a b : Result ℕ Refusal) {ra rb : List ℕ} → WritesBy σ commands lengths room ra a → WritesBy σ commands lengths room rb b → (a ≡ b) × (ra ≡ rb)
  write_one (Ok m) (Ok n) A B = (ap Ok (A.wrote.long ∙ sym B.wrote.long), A.wrote.room ∙ sym B.wrote.room)
  write_one (Err r) (Err s) A B = (ap Err (refused_one r s (A.refusal ∙ sym B.refusal)), A.refused ∙ sym B.refused)
  write_one (Ok m) (Err s) A B = absurd (refused_some s (ap (λ (t : Told). t.number) (B.refusal ∙ sym A.refusal)))
  write_one (Err r) (Ok n) A B = absurd (refused_some r (ap (λ (t : Told). t.number) (A.refusal ∙ sym B.refusal)))
