-- What is told fits the places of an answer room: no cast loses a bit. Assumes nothing.
use mathlib.Core.Path.{◌≡◌, refl, sym, ap}
use mathlib.Core.List.{List, []}
use Prim.Native.Nat.{ℕ, ◌≤◌}
use native.Mathlib.Omega.{arith}
use lib.ListN.{length}
use Rattle.tables.specs.Limits.{most_rows, most_threads}
use Rattle.tables.specs.Rows.{rows}
use Rattle.rules.specs.Rules.{checked}
use Rattle.verdicts.specs.Verdicts.{result_told, numbered}
use Rattle.verdicts.specs.declared.Told.{Told}
use Rattle.grammar.specs.Grammar.{all_commands, threads}
use Rattle.notation.specs.Reading.{most_bytes, Reading, answered, rest_at}
use Rattle.notation.specs.Promise.{Read}
use Rattle.std.specs.Prelude.{Ok, Err}
use Rattle.notation.specs.declared.reading.Unread.TheVariants.{Unfit, Over}
use Rattle.rooms.specs.Short.{room_of, first_short}
use Rattle.rooms.proofs.Rooms.{first_either, none_either}
use Rattle.replay.specs.Writer.{writer_rooms, unwritten}
use Rattle.replay.specs.Doors.{WritesSchedule}
use Rattle.std.specs.Result.{result_unwrap_or}
use Rattle.std.specs.Prelude.{Result, Ok, Err}
use Rattle.verdicts.specs.declared.Refusal.{Refusal}
use Rattle.verdicts.proofs.FirstTold.{or_either}
use Rattle.replay.proofs.Refusals.{unwritten_keeps}
use Rattle.replay.proofs.Places.{Placed, placed, checked_placed, schedule_few}
use Rattle.kernels.specs.Limits.{most_statements}
use Rattle.kernels.specs.declared.kernel.KernelRefusal.{KernelRefusal}
use Rattle.runs.specs.declared.Course.{Course}
use Rattle.runs.specs.declared.Ending.{Ending}
use Rattle.runs.specs.declared.Ending.TheVariants.{Finished, UsedUp, WouldOverfill}
use Rattle.std.specs.Prelude.{Result, Ok, Err}
use Rattle.runs.specs.Run.{ending_number, RunsKernel}
use Rattle.runs.proofs.Places.{place_few}
use Rattle.probe.specs.Numbers.{largest, run_told}
use Rattle.probe.specs.Needs.{Counted, PairsCounted}
use Rattle.evidence.specs.declared.door.Evidence.{Evidence}
use Rattle.evidence.specs.Doors.{Evidenced}
use Rattle.evidence.proofs.Bounds.{evidence_small, evidence_sheet, entries_few}

-- ---- the review

module _ {commands lengths σ relation generations evidence : List ℕ} {r : Evidence} {relation' generations' evidence' : List ℕ}
    (E : Evidenced commands lengths σ relation generations evidence r relation' generations' evidence') where
  pub review_counted : Counted (numbered r.finding.verdict) r.finding.sheet.total r.entries
  unfolding most_rows
  review_counted =
      let S = evidence_small E in
      record { place = omega (arith, S.place); also = omega (arith, S.also); third = omega (arith, S.total); fourth = omega (arith, entries_few E) }

  pub pairs_counted : PairsCounted r.finding.sheet.pairs
  unfolding most_rows
  pairs_counted =
      record {
        many = evidence_sheet E;
        each = λ k h.
            let (a, b) = (evidence_small E).pairs k h in
            (omega arith, omega arith);
      }

-- ---- the schedule writer

unwritten_placed : (commands lengths : List ℕ) (room : ℕ) → Placed (unwritten commands lengths room)
unfolding unwritten most_rows
unwritten_placed commands lengths room =
    or_either Placed (checked commands lengths) (first_short (writer_rooms (rows commands) room)) (checked_placed commands lengths)
    (λ _. first_either (room_of 2 (rows commands) room) [] Placed (placed 4 2 (omega arith)) (none_either Placed (placed 0 0 (omega arith))))

-- and there are few where a schedule is written
module _ {commands lengths room room' : List ℕ} where
  written_few : (r : Result ℕ Refusal) → WritesSchedule commands lengths room room' r → result_unwrap_or r 0 ≤ most_rows
  written_few (Err e) W = omega arith
  written_few (Ok n) W =
      let K = unwritten_keeps commands lengths (length room) (ap (λ (t : Told). t.number) (sym W.refusal)) in
      omega (arith, W.wrote.long, schedule_few commands lengths, K.few_rows)

  pub written_counted : (r : Result ℕ Refusal) → WritesSchedule commands lengths room room' r → Counted (result_told r) (result_unwrap_or r 0) 0
  unfolding most_rows
  written_counted r W =
      let l : Placed (result_told r) = rw W.refusal (unwritten_placed commands lengths (length room)) in
      record { place = omega (arith, l.place); also = omega (arith, l.also); third = omega (arith, written_few r W); fourth = omega arith }

-- ---- the reader

module _ {text commands lengths commands' lengths' : List ℕ} where
  pub reading_counted : (r : Reading) → Read text commands lengths commands' lengths' r → Counted (answered r).told (answered r).command_count (answered r).thread_count
  unfolding most_bytes most_rows most_threads
  reading_counted (Err (Unfit p)) R =
      let (h, i, k) = R.by_grammar.refuses p refl in
      record { place = omega arith; also = omega arith; third = omega arith; fourth = omega arith }
  reading_counted (Err Over) R = record { place = omega arith; also = omega arith; third = omega arith; fourth = omega arith }
  reading_counted (Ok s) R =
      let (x, d, w) = R.by_grammar.accepted s refl in
      let e = (R.by_grammar.accepts x d w).many in
      let f : s.commands ≡ length (all_commands (threads x)) = cc in
      let g : s.threads ≡ length (threads x) = cc in
      record { place = omega arith; also = omega arith; third = omega (arith, w.few_rows); fourth = omega (arith, w.few_threads) }

-- the rest begins in the text, or at its end
pub rest_in : (r : Reading) (n : ℕ) → rest_at r n ≤ n
rest_in (Err (Unfit p)) n = omega arith
rest_in (Err Over) n = omega arith
rest_in (Ok s) n = omega arith

-- ---- the run of a warp

ending_small : (e : Ending) → ending_number e ≤ largest
ending_small Finished = omega arith
ending_small UsedUp = omega arith
ending_small WouldOverfill = omega arith

pub run_counted : (statements expressions : List ℕ) (lanes steps : ℕ) (cells cells' : List ℕ) (r : Result Course KernelRefusal) → RunsKernel statements expressions lanes steps cells cells' r
    → Counted (run_told r).told (run_told r).ending 0
unfolding most_statements
run_counted statements expressions lanes steps cells cells' (Ok course) R =
    record { place = omega arith; also = omega arith; third = ending_small course.ending; fourth = omega arith }
run_counted statements expressions lanes steps cells cells' (Err refusal) R =
    record { place = omega (arith, place_few statements expressions lanes steps cells cells' (Err refusal) R refusal refl); also = omega arith; third = omega arith; fourth = omega arith }
