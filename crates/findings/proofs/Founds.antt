-- The contract of `find_faults` from what its parts found: refused, or what a search tells. Assumes nothing.
use mathlib.Core.Path.{◌≡◌, refl, ap, ◌∙◌}
use mathlib.Core.Logic.{◌≢◌}
use mathlib.Core.List.{List, []}
use Prim.Native.Nat.{ℕ}
use lib.ListN.{length}
use borrow.Author.Tests.{ne_eqb}
use Rattle.verdicts.specs.Verdicts.{tell, refused, numbered}
use Rattle.verdicts.specs.declared.Told.{Told}
use Rattle.verdicts.specs.declared.Refusal.{Refusal}
use Rattle.verdicts.specs.declared.Verdict.{Verdict}
use Rattle.verdicts.specs.declared.Verdict.TheVariants.{Refused}
use Rattle.verdicts.proofs.Verdicts.{refused_some}
use Rattle.verdicts.proofs.FirstTold.{or_refused, or_passed}
use Rattle.sheet.specs.Sheet.{sheet_of}
use Rattle.findings.specs.declared.finding.Finding.{Finding}
use Rattle.rooms.specs.Refusals.{size_refusal}
use Rattle.findings.specs.Findings.{Finds}
use Rattle.findings.specs.Needs.{LookedOver}

module _ (commands lengths generations relation : List ℕ) where
  abbrev told : Told
  told = size_refusal commands (length relation) (length generations)

  pub finds_refused : (r : Refusal) → refused r ≡ told → {v : Verdict} → v ≡ Refused r
      → Finds commands lengths generations relation (record { verdict = v; sheet = sheet_of [] })
  finds_refused r e is =
      let m : told.number ≢ 0 = λ z. refused_some r (ap (λ (t : Told). t.number) e ∙ z) in
      record { verdict = ap numbered is ∙ or_refused r e _; sheet = rw (ne_eqb told.number 0 m) }

  pub finds_looked : tell 0 0 0 ≡ told → {r : Finding} → LookedOver commands lengths generations relation r
      → Finds commands lengths generations relation r
  finds_looked pass L = record { verdict = L.verdict ∙ or_passed pass _; sheet = L.sheet ∙ rw (← pass) refl }
