-- Whatever table tells what reaches what, the verdict and the pairs are the same: so demand 2 is shown, and used, by the table of Warshall's rounds. Assumes nothing.
use mathlib.Core.Path.{◌≡◌, refl}
use mathlib.Core.Bool.{Bool, true, false}
use mathlib.Core.List.{List, []}
use Prim.Native.Nat.{ℕ, ◌<◌}
use lib.ListN.{length}
use Rattle.verdicts.specs.Verdicts.{numbered}
use Rattle.verdicts.specs.Numbers.{fills}
use Rattle.verdicts.proofs.Numbers.{pairs_fill}
use Rattle.tables.specs.Rows.{rows}
use Rattle.relation.proofs.Truth.{same_test, clashing, isnt}
use Rattle.schedules.proofs.Theorems.{decides}
use Rattle.sheet.specs.Sheet.{sheet_of}
use Rattle.programs.specs.Program.{program}
use Rattle.faults.specs.declared.faults.Fault.{Fault}
use Rattle.faults.specs.declared.faults.Fault.TheVariants.{Reuse, Race}
use Rattle.faults.specs.Faults.{faults}
use Rattle.faults.proofs.Pairs.{same_faults}
use Rattle.findings.specs.declared.finding.Finding.{Finding}
use Rattle.findings.specs.Findings.{fault_pairs}
use Rattle.review.specs.Judge.{generations_by, TellsReach, verdict_by, reaches, verdict_of}
use Rattle.review.specs.Agreement.{number, Safe, Exact, RoundsTell}

pub rounds_tell : RoundsTell
rounds_tell commands lengths σ = record { exactly = decides (program commands lengths) (generations_by commands lengths σ) }

module _ (commands lengths σ : List ℕ) (ρ : ℕ → ℕ → Bool) (T : TellsReach commands lengths σ ρ) where
  abbrev g : ℕ → ℕ
  g = generations_by commands lengths σ

  told_same : (x y : ℕ) → x < rows commands → y < rows commands → reaches commands lengths σ x y ≡ ρ x y
  told_same x y lx ly =
      let (f, t) = (rounds_tell commands lengths σ).exactly x y lx ly in
      let (u, v) = T.exactly x y lx ly in
      same_test _ _ (λ e. v (f e)) (λ e. t (u e))

  faults_same : (f : Fault) → faults commands lengths g (reaches commands lengths σ) f ≡ faults commands lengths g ρ f
  faults_same = same_faults commands lengths g g _ _ (λ c l. refl) told_same

  pub verdict_same : (relation generations : ℕ) → verdict_of commands lengths σ relation generations ≡ verdict_by commands lengths σ ρ relation generations
  unfolding verdict_of
  verdict_same relation generations = rw (faults_same Reuse, faults_same Race)

  pub pairs_same : fault_pairs commands lengths g (reaches commands lengths σ) ≡ fault_pairs commands lengths g ρ
  pairs_same = rw (faults_same Reuse, faults_same Race)

-- what demand 2 says, by that table
module _ {commands lengths σ relation generations : List ℕ} {r : Finding} {relation' generations' : List ℕ}
    (E : Exact commands lengths σ relation generations r relation' generations') where
  pub verdict_is : numbered r.verdict ≡ verdict_of commands lengths σ (length relation) (length generations)
  unfolding verdict_of
  verdict_is = E.verdict (reaches commands lengths σ) (rounds_tell commands lengths σ)

  pub sheet_is : fills (number r) ≡ true → r.sheet ≡ sheet_of (fault_pairs commands lengths (generations_by commands lengths σ) (reaches commands lengths σ))
  sheet_is = E.sheet (reaches commands lengths σ) (rounds_tell commands lengths σ)

-- what demand 1 says of the sheet, where no room is filled
pub empty_is : {commands relation generations : List ℕ} {r : Finding} {relation' generations' : List ℕ} → Safe commands relation generations r relation' generations'
    → fills (number r) ≡ false → r.sheet ≡ sheet_of []
empty_is {r = r} S f = S.empty (isnt _ (λ e. clashing (pairs_fill (number r) e) f))
