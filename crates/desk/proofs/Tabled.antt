-- Two tables, judged by the schedule that was written for them. Assumes nothing.
use mathlib.Core.Path.{◌≡◌, refl, sym, ap, ◌∙◌, subst}
use mathlib.Core.Bool.{Bool, true, false, cond, true≢false}
use mathlib.Core.Logic.{◌≢◌, by_cases}
use mathlib.Core.List.{List, []}
use Prim.Native.Nat.{ℕ, ◌≤◌}
use native.Mathlib.Omega.{arith}
use native.Mathlib.Decide.{ℕ_discrete}
use lib.ListN.{length, take, drop, replicate, length-append, length-replicate}
use lib.Seq.{take_at}
use Rattle.tables.specs.Limits.{most_rows}
use Rattle.tables.specs.Rows.{rows}
use Rattle.rules.specs.Rules.{checked}
use Rattle.verdicts.specs.Verdicts.{numbered}
use Rattle.verdicts.specs.Numbers.{has_pairs, fills}
use Rattle.verdicts.proofs.Numbers.{few_refusal, refusal_unfilled, pairs_fill}
use Rattle.rules.proofs.Rules.{passes_zero, checked_small}
use Rattle.relation.specs.Table.{words}
use Rattle.relation.proofs.Truth.{clashing}
use Rattle.std.specs.Result.{result_unwrap_or}
use Rattle.std.specs.Prelude.{Result, Ok, Err}
use Rattle.verdicts.specs.declared.Refusal.{Refusal}
use Rattle.verdicts.proofs.Verdicts.{refused_some}
use Rattle.replay.specs.Doors.{WritesSchedule}
use Rattle.verdicts.specs.declared.Told.{Told}
use Rattle.replay.specs.Writer.{schedule, unwritten}
use Rattle.replay.proofs.Refusals.{keeps_written}
use Rattle.findings.specs.declared.finding.Finding.{Finding}
use Rattle.review.specs.Agreement.{Reviewed}
use Rattle.happens.specs.HappensBefore.{Reached}
use Rattle.steps.specs.Going.{played}
use Rattle.review.specs.Judge.{generations_by}
use Rattle.sheet.specs.Sheet.{sheet_of}
use Rattle.review.proofs.Bounds.{refused_checked}
use Rattle.report.specs.declared.Conclusion.{Conclusion}
use Rattle.desk.specs.Conclusion.{told_of, pairs_of, of_tables, bare}
use Rattle.desk.specs.Needs.{FilledRooms, JudgesTables}
use Rattle.review.proofs.Rooms.{put}
use Rattle.review.proofs.Telling.{verdict_is, sheet_is, empty_is}
use Rattle.steps.proofs.Filled.{filled_room}

-- a room of zeros is a full one
pub full_rows : length {A = ℕ} (replicate 512 0) ≡ most_rows
unfolding most_rows
full_rows = length-replicate {A = ℕ} 512 0

-- a full room is not refused
roomy : (commands lengths : List ℕ) (room : ℕ) → (checked commands lengths).number ≡ 0 → most_rows ≤ room → (unwritten commands lengths room).number ≡ 0
roomy commands lengths room e l =
    let K = passes_zero commands lengths e in
    keeps_written commands lengths room K (omega (arith, K.few_rows))

-- what the writer left in a full room, and how many steps; none where it refused
module _ {commands lengths before after : List ℕ} (full : length before ≡ most_rows) where
  pub steps_fit : (w : Result ℕ Refusal) → WritesSchedule commands lengths before after w → {n : ℕ} → n ≡ result_unwrap_or w 0 → length after ≡ length before → n ≤ length after
  steps_fit (Ok k) W e s =
      let F = W.wrote in omega (arith, F.long, full, s, ap (λ (l : List ℕ). length l) (filled_room F), length-append (schedule commands lengths) (drop k before))
  steps_fit (Err r) W e s = omega arith

  pub steps_are : (w : Result ℕ Refusal) → WritesSchedule commands lengths before after w → {n : ℕ} → n ≡ result_unwrap_or w 0
      → (checked commands lengths).number ≡ 0 → take n after ≡ schedule commands lengths
  steps_are (Ok k) W e z =
      let F = W.wrote in
      ap (λ (n : ℕ). take n after) e ∙ ap (λ (l : List ℕ). take k l) (filled_room F) ∙ take_at (schedule commands lengths) (drop k before) k (sym F.long)
  steps_are (Err r) W e z =
      absurd (refused_some r (ap (λ (t : Told). t.number) W.refusal ∙ roomy commands lengths (length before) z (omega arith)))

-- what the check tells of tables, and is not 0, fills nothing
checked_unfilled : (commands lengths : List ℕ) → (checked commands lengths).number ≢ 0 → fills (checked commands lengths).number ≡ false
checked_unfilled commands lengths n =
    let k = (checked commands lengths).number in
    refusal_unfilled k (few_refusal k (omega (arith, checked_small commands lengths)) n)

-- what the review then found
module _ {commands lengths σ relation room relation' room' : List ℕ} {f : Finding} (R : Reviewed commands lengths σ relation room f relation' room')
    (wide : length relation ≡ words most_rows) (high : length room ≡ most_rows) {t : Told} (said : t ≡ numbered f.verdict) where
  abbrev told_as : Conclusion
  told_as = record { told = t; sheet = f.sheet }

  agrees : numbered f.verdict ≡ told_of commands lengths → (fills (told_of commands lengths).number ≡ true → f.sheet ≡ sheet_of (pairs_of commands lengths))
      → told_as ≡ of_tables commands lengths
  unfolding of_tables
  agrees e p = by (fills (told_of commands lengths).number) refl
    where
      by : (b : Bool) → fills (told_of commands lengths).number ≡ b
          → told_as ≡ cond b (record { told = told_of commands lengths; sheet = sheet_of (pairs_of commands lengths) }) (bare (told_of commands lengths))
      by true q = let s = p q in cc
      by false q = let s : f.sheet ≡ sheet_of [] = empty_is R.demand₁ (ap (λ (u : Told). fills u.number) e ∙ q) in cc

  pub concluded : ((checked commands lengths).number ≡ 0 → σ ≡ schedule commands lengths) → told_as ≡ of_tables commands lengths
  concluded s = by_cases (ℕ_discrete (checked commands lengths).number 0) passed refused
    where
      passed : (checked commands lengths).number ≡ 0 → told_as ≡ of_tables commands lengths
      passed e =
          let q = s e in
          let v : numbered f.verdict ≡ told_of commands lengths = verdict_is R.demand₂ ∙ rw (wide, high, q) in
          agrees v (λ p. sheet_is R.demand₂ (ap (λ (u : Told). fills u.number) v ∙ p) ∙ rw q)

      refused : (checked commands lengths).number ≢ 0 → told_as ≡ of_tables commands lengths
      refused n =
          let q : told_of commands lengths ≡ checked commands lengths = refused_checked commands lengths n (schedule commands lengths) (words most_rows) most_rows in
          agrees (verdict_is R.demand₂ ∙ refused_checked commands lengths n σ (length relation) (length room) ∙ sym q)
          (λ p. absurd (true≢false (sym p ∙ rw q (checked_unfilled commands lengths n))))

  -- for 10 and 11 the tables pass, and the rooms are filled
  pub judged_tables : ((checked commands lengths).number ≡ 0 → σ ≡ schedule commands lengths) → JudgesTables commands lengths relation room told_as relation' room'
  judged_tables s = record { concludes = concluded s; holds = λ l. by_cases (ℕ_discrete (checked commands lengths).number 0) (filled_rooms l) (λ n. absurd (refused_low l n)) }
    where
      filled_rooms : has_pairs t.number ≡ true → (checked commands lengths).number ≡ 0 → FilledRooms commands lengths relation room relation' room'
      filled_rooms l e =
          let q = s e in
          let full : fills (numbered f.verdict).number ≡ true = subst (λ (u : Told). fills u.number ≡ true) said (pairs_fill t.number l) in
          record {
            reached = subst (λ (τ : List ℕ). Reached commands lengths (generations_by commands lengths τ) relation relation') q (R.demand₂.relation_holds full);
            numbers = R.demand₂.generations_hold full ∙ ap (λ (τ : List ℕ). put (played commands lengths τ).generations (rows commands) room) q;
          }

      refused_low : has_pairs t.number ≡ true → (checked commands lengths).number ≢ 0 → ⊥
      refused_low l n =
          let e = said ∙ verdict_is R.demand₂ ∙ refused_checked commands lengths n σ (length relation) (length room) in
          clashing (subst (λ (u : Told). fills u.number ≡ true) e (pairs_fill t.number l)) (checked_unfilled commands lengths n)
