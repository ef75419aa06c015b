-- What the sheets of a search tell: the first pair of one kind, then of both, by the heads and by the lengths. Assumes nothing.
use mathlib.Core.Path.{◌≡◌, refl, sym, ap, ◌∙◌}
use mathlib.Core.Logic.{◌≢◌}
use mathlib.Core.List.{List, [], ◌∷◌}
use Prim.Native.Nat.{ℕ}
use native.Mathlib.Omega.{arith}
use lib.ListN.{length, get_or}
use Rattle.tables.specs.Rows.{rows}
use Rattle.tables.specs.Heads.{Headed}
use Rattle.verdicts.specs.Verdicts.{tell}
use Rattle.relation.specs.Table.{related}
use Rattle.rooms.specs.Rooms.{number_at}
use Rattle.sheet.specs.declared.Pair.{Pair}
use Rattle.sheet.specs.declared.Sheet.{Sheet}
use Rattle.sheet.specs.Sheet.{most_kept, pair, firsts, sheet_of}
use Rattle.faults.specs.declared.faults.Fault.{Fault}
use Rattle.faults.specs.declared.faults.Fault.TheVariants.{Reuse, Race}
use Rattle.faults.specs.Faults.{faults}
use Rattle.faults.proofs.Pairs.{all_faults}
use Rattle.faults.proofs.Tests.{is_faulty}
use Rattle.findings.specs.declared.finding.Finding.{Finding}
use Rattle.findings.specs.declared.searched.Searched.{Searched}
use Rattle.findings.specs.Findings.{first_pair}
use Rattle.findings.specs.Needs.{is_fault_at, all_found, Found, Looked, LookedBy, LookedOver}

-- ---- one kind

-- by the number of its verdict
module _ (n : ℕ) (s : Sheet) (ps : List Pair) (is : s ≡ sheet_of ps) where
  pub told_none : s.total ≡ 0 → tell 0 0 0 ≡ first_pair n ps (tell 0 0 0)
  unfolding sheet_of
  told_none e = by ps (sym (ap (λ (s : Sheet). s.total) is) ∙ e)
    where
      by : (ps : List Pair) → length ps ≡ 0 → tell 0 0 0 ≡ first_pair n ps (tell 0 0 0)
      by [] h = refl
      by (p ∷ ps) h = absurd (omega arith)

  pub told_first : s.total ≢ 0 → tell n (get_or s.pairs 0 (pair 0 0)).first (get_or s.pairs 0 (pair 0 0)).second ≡ first_pair n ps (tell 0 0 0)
  unfolding sheet_of firsts most_kept
  told_first h = rw is (by ps (λ e. h (ap (λ (s : Sheet). s.total) is ∙ e)))
    where
      by : (ps : List Pair) → length ps ≢ 0
          → tell n (get_or (sheet_of ps).pairs 0 (pair 0 0)).first (get_or (sheet_of ps).pairs 0 (pair 0 0)).second ≡ first_pair n ps (tell 0 0 0)
      by [] h = absurd (h refl)
      by (p ∷ ps) h = refl

-- ---- both kinds

pub looked_reuse : (ps qs : List Pair) {r : Finding} → Found Reuse ps r → r.sheet.total ≢ 0 → Looked ps qs r
unfolding sheet_of
looked_reuse [] qs F h = absurd (h (ap (λ (s : Sheet). s.total) F.sheet))
looked_reuse (p ∷ ps) qs F h = record { verdict = F.verdict; sheet = F.sheet }

pub looked_race : (ps qs : List Pair) {s r : Finding} → Found Reuse ps s → s.sheet.total ≡ 0 → Found Race qs r → Looked ps qs r
unfolding sheet_of
looked_race [] qs F h G = record { verdict = G.verdict; sheet = G.sheet }
looked_race (p ∷ ps) qs F h G = absurd (omega (arith, ap (λ (s : Sheet). s.total) F.sheet))

-- ---- by the lengths

found_faults : (s : Searched) {lengths : List ℕ} → Headed lengths s.heads.now (rows s.commands.now) → (f : Fault)
    → all_found s f ≡ faults s.commands.now lengths (number_at s.generations.now) (related s.relation.now (rows s.commands.now)) f
unfolding is_fault_at
found_faults s {lengths} H f =
    all_faults s.commands.now lengths (number_at s.generations.now) (related s.relation.now (rows s.commands.now)) f (is_fault_at s f)
    (is_faulty s.commands.now lengths s.heads.now H s.generations.now s.relation.now f)

pub looked_over : (s : Searched) {lengths : List ℕ} → Headed lengths s.heads.now (rows s.commands.now) → {r : Finding}
    → LookedBy s r → LookedOver s.commands.now lengths s.generations.now s.relation.now r
looked_over s H L =
    let same = found_faults s H in
    record { verdict = rw (← same Reuse, ← same Race) L.verdict; sheet = rw (← same Reuse, ← same Race) L.sheet }
