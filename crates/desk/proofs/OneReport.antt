-- One program, one file, of texts. Assumes nothing.
use mathlib.Core.Path.{◌≡◌, sym, ap, ◌∙◌}
use mathlib.Core.Bool.{true}
use mathlib.Core.List.{List}
use Prim.Native.Nat.{ℕ}
use Rattle.tables.specs.Limits.{most_rows}
use Rattle.verdicts.specs.Verdicts.{numbered}
use Rattle.verdicts.specs.Numbers.{settles}
use Rattle.verdicts.proofs.Numbers.{settled_fills}
use Rattle.verdicts.specs.declared.Told.{Told}
use Rattle.relation.specs.Table.{words}
use Rattle.spelling.specs.Machine.{Outcome, flat}
use Rattle.notation.specs.Reading.{row_numbers, thread_lengths}
use Rattle.notation.proofs.Readings.{denoted_found}
use Rattle.replay.specs.Writer.{schedule}
use Rattle.replay.proofs.Writing.{schedule_complete}
use Rattle.sheet.specs.Sheet.{sheet_of}
use Rattle.review.specs.Agreement.{number, Review}
use Rattle.review.proofs.OneFile.{Settling, settling, admits, complete_settles, one_told, one_pairs}
use Rattle.review.proofs.Bounds.{full_rooms}
use Rattle.desk.specs.Conclusion.{told_of, pairs_of, of_tables, of_text}
use Rattle.desk.specs.Evidence.{text_exhibits}
use Rattle.desk.specs.OneReport.{OneReport, SameAsReview}
use Rattle.desk.proofs.Demands.{denoted_concluded}
use Rattle.review.proofs.Telling.{verdict_is, sheet_is}

pub one_report : OneReport
unfolding text_exhibits
one_report x a b A B =
    let f = denoted_found a x A.denotes ∙ sym (denoted_found b x B.denotes) in
    let r : row_numbers a ≡ row_numbers b = ap (λ (o : Outcome). flat o.rows) f in
    let l : thread_lengths a ≡ thread_lengths b = ap (λ (o : Outcome). o.lengths) f in
    let e : of_text a ≡ of_text b = denoted_concluded a x A.denotes A.within ∙ sym (denoted_concluded b x B.denotes B.within) in
    (e, rw (r, l, e))

-- ---- the writer's schedule and any other

module _ {commands lengths : List ℕ} (r : Review commands lengths) (s : settles (number r.found) ≡ true) where
  -- the writer's schedule gets 0 or 11, too
  writer_settles : Settling commands lengths (schedule commands lengths) (words most_rows) most_rows
  writer_settles =
      let A = admits (settling r s) in
      complete_settles (settling r s) (schedule_complete A.keeps) (ap (λ (t : Told). t.number) (full_rooms commands lengths A.checks))

  concluded : of_tables commands lengths ≡ record { told = numbered r.found.verdict; sheet = r.found.sheet }
  unfolding of_tables
  concluded =
      let t : told_of commands lengths ≡ numbered r.found.verdict = one_told writer_settles (settling r s) ∙ sym (verdict_is r.meets.demand₂) in
      let h : sheet_of (pairs_of commands lengths) ≡ r.found.sheet = ap sheet_of (one_pairs writer_settles (settling r s)) ∙ sym (sheet_is r.meets.demand₂ (settled_fills (number r.found) s)) in
      rw (settled_fills (told_of commands lengths).number writer_settles.settled, t, h)

-- that the verdict settles is computed from what the claim asks of it
pub same_as_review : SameAsReview
same_as_review x text A r s = denoted_concluded text x A.denotes A.within ∙ concluded r (rw s)
