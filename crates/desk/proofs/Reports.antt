-- Any text's report has room, and no other answer meets the promise. Assumes nothing.
use mathlib.Core.Path.{◌≡◌, refl, sym, ◌∙◌}
use mathlib.Core.Bool.{Bool, true, false, cond}
use mathlib.Core.Logic.{by_cases}
use mathlib.Core.List.{List, []}
use Rattle.std.specs.Prelude.{Ok, Err}
use Prim.Native.Nat.{ℕ, zero, suc, ◌*◌, ◌≤◌, ◌<◌}
use native.Mathlib.Omega.{arith}
use native.Mathlib.Decide.{dec_lt}
use lib.Dec.{eqb}
use lib.ListN.{length, get_or}
use Rattle.tables.specs.Limits.{most_rows, most_threads}
use Rattle.verdicts.specs.Numbers.{fills}
use Rattle.verdicts.specs.declared.Told.{Told}
use Rattle.verdicts.proofs.Numbers.{verdict_small}
use Rattle.notation.specs.declared.reading.Unread.TheVariants.{Unfit, Over}
use Rattle.notation.specs.Reading.{Reading, most_bytes, answered, row_numbers, thread_lengths}
use Rattle.notation.proofs.Readings.{Stands, reads_means}
use Rattle.relation.specs.Table.{words}
use Rattle.printing.specs.declared.Printer.{Printer}
use Rattle.printing.specs.Putting.{Prints}
use Rattle.printing.proofs.Placing.{puts_over}
use Rattle.replay.specs.Writer.{schedule}
use Rattle.sheet.specs.Sheet.{most_kept, pair, firsts, sheet_of}
use Rattle.review.proofs.Bounds.{place_small, also_small, number_verdict, pairs_few, pairs_small}
use Rattle.report.specs.declared.Conclusion.{Conclusion}
use Rattle.desk.specs.Conclusion.{bare, told_of, pairs_of, of_tables, read_as, of_text}
use Rattle.report.specs.Report.{report}
use Rattle.desk.specs.Promise.{least_room, TextReviewed}
use Rattle.report.proofs.Long.{Short, longest, report_short}
use Rattle.desk.proofs.Demands.{taken, read_told, text_judged}

-- small numbers
record Few (c : Conclusion) : Type 0 where
  number : c.told.number < 100
  place : c.told.place < 100000
  also : c.told.also < 1000
  total : c.sheet.total < 1000000
  pairs : (k : ℕ) → k < most_kept → Short (get_or c.sheet.pairs k (pair 0 0))

nothing : (n k : ℕ) → Short (get_or (firsts n []) k (pair 0 0))
unfolding firsts
nothing zero k = (omega arith, omega arith)
nothing (suc n) zero = (omega arith, omega arith)
nothing (suc n) (suc k) = nothing n k

few_bare : (t : Told) → t.number < 100 → t.place < 100000 → t.also < 1000 → Few (bare t)
unfolding sheet_of
few_bare t n p a = record { number = n; place = p; also = a; total = omega arith; pairs = λ k _. nothing most_kept k }

module _ (commands lengths : List ℕ) where
  abbrev σ : List ℕ
  σ = schedule commands lengths

  few_told : ((told_of commands lengths).number < 100) × ((told_of commands lengths).place < 100000) × ((told_of commands lengths).also < 1000)
  unfolding most_rows
  few_told = (
    verdict_small (told_of commands lengths).number (number_verdict commands lengths σ (words most_rows) most_rows),
    omega (arith, place_small commands lengths σ (words most_rows) most_rows),
    omega (arith, also_small commands lengths σ (words most_rows) most_rows),
  )

  few_faults : fills (told_of commands lengths).number ≡ true → Few (record { told = told_of commands lengths; sheet = sheet_of (pairs_of commands lengths) })
  unfolding most_rows sheet_of
  few_faults e =
      record {
        number = few_told.0;
        place = few_told.1;
        also = few_told.2;
        total = omega (arith, pairs_few commands lengths σ (words most_rows) most_rows e);
        pairs = λ k l. let (a, b) = pairs_small commands lengths σ (words most_rows) most_rows e k l in (omega arith, omega arith);
      }

  few_tables : Few (of_tables commands lengths)
  unfolding of_tables
  few_tables = by (fills (told_of commands lengths).number) refl
    where
      by : (b : Bool) → fills (told_of commands lengths).number ≡ b
          → Few (cond b (record { told = told_of commands lengths; sheet = sheet_of (pairs_of commands lengths) }) (bare (told_of commands lengths)))
      by true e = few_faults e
      by false e = few_bare (told_of commands lengths) few_told.0 few_told.1 few_told.2

-- what a reading refuses
few_reading : (text : List ℕ) (r : Reading) → Stands text (most_rows * 3) most_threads r → Few (bare (answered r).told)
unfolding most_bytes
few_reading text (Err (Unfit p)) (b, i, _) = few_bare _ (omega arith) (omega arith) (omega arith)
few_reading text (Err Over) _ = few_bare _ (omega arith) (omega arith) (omega arith)
few_reading text (Ok s) _ = few_bare _ (omega arith) (omega arith) (omega arith)

few_text : (text : List ℕ) → Few (of_text text)
unfolding of_text
few_text text = by (eqb (read_as text).number 0)
  where
    by : (b : Bool) → Few (cond b (of_tables (row_numbers text) (thread_lengths text)) (bare (read_as text)))
    by true = few_tables (row_numbers text) (thread_lengths text)
    by false = rw (read_told text refl) (few_reading text (taken text) (reads_means text (most_rows * 3) most_threads))

pub text_short : (text : List ℕ) → length (report (of_text text)) ≤ longest
text_short text = let f = few_text text in report_short (of_text text) f.number f.place f.also f.total f.pairs

pub longest_fits : longest ≤ least_room
unfolding longest least_room
longest_fits = omega arith

pub text_fits : (text : List ℕ) → length (report (of_text text)) ≤ least_room
text_fits text = omega (arith, text_short text, longest_fits)

-- what `review_text` has found at its two returns
pub refused_room : (text : List ℕ) {room : List ℕ} → length room < least_room → TextReviewed text room room 14
refused_room text l =
    record {
      refuses = λ _. (refl, refl);
      answers = λ h. absurd (omega arith);
      prints = λ h. absurd (omega arith);
      demand₃ = λ h. absurd (omega arith);
    }

pub reviewed_text : (text : List ℕ) {p q : Printer} {k : Conclusion} {room : List ℕ} → least_room ≤ length p.room.now → k ≡ of_text text → p.at ≡ 0
    → Prints p q (report k) → room ≡ q.room.now → TextReviewed text p.room.now room k.told.number
reviewed_text text {k = k} l e z f r =
    let n : k.told.number ≡ (of_text text).told.number = cc in
    record {
      refuses = λ h. absurd (omega arith);
      answers = λ _. n;
      prints = λ _. r ∙ puts_over z (rw e at f) (omega (arith, text_fits text));
      demand₃ = λ _. rw n (text_judged text);
    }

-- no other answer, and no other bytes
pub text_one : {text room a b : List ℕ} {m n : ℕ} → TextReviewed text room a m → TextReviewed text room b n → (m ≡ n) × (a ≡ b)
text_one {room = room} x y =
    by_cases (dec_lt (length room) least_room)
    (λ (l : length room < least_room).
    let (e, p) = x.refuses l in
    let (f, q) = y.refuses l in
    (e ∙ sym f, p ∙ sym q))
    (λ (n : ¬ (length room < least_room)).
    let l : least_room ≤ length room = omega arith in
    (x.answers l ∙ sym (y.answers l), x.prints l ∙ sym (y.prints l)))
