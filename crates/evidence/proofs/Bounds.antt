-- How large the numbers of an answer with evidence are. Assumes nothing.
use mathlib.Core.Path.{◌≡◌, sym, ap, ◌∙◌, subst}
use mathlib.Core.Logic.{by_cases, ⊎_elim, ◌≢◌}
use mathlib.Core.Bool.{true, false}
use mathlib.Core.List.{List}
use Prim.Native.Nat.{ℕ, ◌*◌, ◌≤◌, min}
use native.Mathlib.Decide.{ℕ_discrete}
use native.Mathlib.Nat.{mul-le-mul}
use native.Mathlib.Omega.{arith}
use lib.ListN.{length, length-take}
use borrow.Author.Tests.{eq-eqb, ne_eqb}
use Rattle.tables.specs.Limits.{most_rows}
use Rattle.tables.specs.Rows.{rows}
use Rattle.verdicts.specs.Numbers.{fills}
use Rattle.verdicts.specs.declared.Told.{Told}
use Rattle.relation.proofs.Truth.{split}
use Rattle.sheet.specs.declared.Pair.{Pair}
use Rattle.sheet.specs.declared.Sheet.{Sheet}
use Rattle.sheet.specs.Sheet.{most_kept, sheet_of, kept_pairs, first_kept}
use Rattle.sheet.proofs.Sheets.{sheet_long}
use Rattle.replay.proofs.Places.{Placed, placed}
use Rattle.rooms.proofs.Refusals.{admitted}
use Rattle.review.specs.Judge.{reaches}
use Rattle.review.specs.Agreement.{number}
use Rattle.review.proofs.Bounds.{SmallNumbers, finding_small, bare_small, refused_placed}
use Rattle.evidence.specs.declared.door.Evidence.{Evidence}
use Rattle.evidence.specs.Evidence.{against, evidence_room, evidence_of}
use Rattle.evidence.specs.Doors.{refusal_of, Evidenced}
use Rattle.evidence.proofs.Putting.{apart_few}
use Rattle.evidence.proofs.Doors.{showing_passes, showing_either}
use Rattle.review.proofs.Telling.{sheet_is, empty_is}

module _ {commands lengths σ relation generations room : List ℕ} {r : Evidence} {relation' generations' room' : List ℕ}
    (E : Evidenced commands lengths σ relation generations room r relation' generations' room') where
  abbrev all : Told
  all = refusal_of commands lengths relation generations room

  all_placed : Placed all
  unfolding most_rows
  all_placed =
      showing_either commands lengths (length relation) (length generations) (length room) Placed (refused_placed commands lengths σ (length relation) (length generations))
      (placed 4 4 (omega arith)) (placed 0 0 (omega arith))

  pub evidence_small : SmallNumbers r.finding
  evidence_small =
      by_cases (ℕ_discrete all.number 0) (λ (z : all.number ≡ 0). finding_small (E.reviewed z))
      (λ (n : all.number ≢ 0).
      let (e, U) = E.refused n in
      subst (λ (s : Sheet). SmallNumbers (record { verdict = r.finding.verdict; sheet = s })) (sym U.sheet) (bare_small r.finding.verdict (subst Placed (sym e) all_placed)))

  pub evidence_sheet : length r.finding.sheet.pairs ≡ most_kept
  evidence_sheet =
      by_cases (ℕ_discrete all.number 0)
      (λ (z : all.number ≡ 0).
      let R = E.reviewed z in
      ⊎_elim (λ (t : fills (number r.finding) ≡ true). is _ (sheet_is R.demand₂ t)) (λ (f : fills (number r.finding) ≡ false). is _ (empty_is R.demand₁ f))
      (split (fills (number r.finding))))
      (λ (n : all.number ≢ 0). is _ (E.refused n).1.sheet)
    where
      is : (ps : List Pair) → r.finding.sheet ≡ sheet_of ps → length r.finding.sheet.pairs ≡ most_kept
      is ps e = ap (λ (s : Sheet). length s.pairs) e ∙ sheet_long ps

  -- no more than a room for the longest tables has
  module _ (z : all.number ≡ 0) where
    few : rows commands ≤ most_rows
    few = (admitted commands lengths (length relation) (length generations) (showing_passes commands lengths (length relation) (length generations) (length room) z).0).keeps.few_rows

    ten_few : number r.finding ≡ 10 → r.entries ≤ rows commands
    unfolding evidence_of
    ten_few e =
        let p = first_kept r.finding.sheet in
        let q : r.entries ≡ length (against commands lengths (reaches commands lengths σ) p) = (E.holds z).written.long ∙ rw (eq-eqb (number r.finding) 10 e) in
        omega (arith, q, apart_few commands lengths (reaches commands lengths σ) p.first p.second)

    eleven_few : number r.finding ≡ 11 → r.entries ≤ evidence_room most_rows
    unfolding most_kept
    eleven_few e =
        let s = r.finding.sheet in
        let k : length (kept_pairs s) ≤ 16 = omega (arith, length-take (min s.total most_kept) s.pairs) in
        let m : length (kept_pairs s) * rows commands ≤ 16 * most_rows = mul-le-mul k few in
        omega (arith, (E.holds z).count e, m)

    passed_few : r.entries ≤ evidence_room most_rows
    passed_few =
        by_cases (ℕ_discrete (number r.finding) 10) (λ (e : number r.finding ≡ 10). omega (arith, ten_few e, few))
        (λ (n : number r.finding ≢ 10).
        by_cases (ℕ_discrete (number r.finding) 11) eleven_few
        (λ (m : number r.finding ≢ 11). omega (arith, ((E.holds z).nothing (rw (ne_eqb (number r.finding) 10 n, ne_eqb (number r.finding) 11 m))).0)))

  pub entries_few : r.entries ≤ evidence_room most_rows
  entries_few = by_cases (ℕ_discrete all.number 0) passed_few (λ (n : all.number ≢ 0). omega (arith, (E.refused n).1.entries))
