-- What the text review with evidence promises (R63).
use Rattle.std.specs.Prelude.{◌≡◌, Bool, List, ◌++◌, ℕ, ◌≤◌, ◌<◌, length, get_or}
use Rattle.tables.specs.Over.{over}
use Rattle.notation.specs.Reading.{row_numbers, thread_lengths}
use Rattle.replay.specs.Writer.{schedule}
use Rattle.sheet.specs.declared.Pair.{Pair}
use Rattle.sheet.specs.Sheet.{pair, kept_pairs, first_kept}
use Rattle.review.specs.Judge.{generations_by, reaches}
use Rattle.evidence.specs.Evidence.{Disputes, HasBefore, against, first_first, second_first}
use Rattle.exhibits.specs.Shown.{what_is_shown, Says}
use Rattle.exhibits.specs.Exhibits.{exhibits}
use Rattle.desk.specs.Conclusion.{of_text}
use Rattle.desk.specs.Promise.{JudgesText}
use Rattle.report.specs.Report.{report}

-- a report room for evidence has at least so many bytes: 192 for the report, and 1,600 for each of 32 schedules with the line above it (R63)
unfoldable pub least_evidence : ℕ
least_evidence = 51392

-- over a text's tables and the schedule that the writer writes for them
module _ (text : List ℕ) where
  abbrev pub commands_of : List ℕ
  commands_of = row_numbers text

  abbrev pub lengths_of : List ℕ
  lengths_of = thread_lengths text

  abbrev pub offered : List ℕ
  offered = schedule commands_of lengths_of

  abbrev pub generations_of : ℕ → ℕ
  generations_of = generations_by commands_of lengths_of offered

  abbrev pub reaches_of : ℕ → ℕ → Bool
  reaches_of = reaches commands_of lengths_of offered

  -- the exhibits of what is concluded from the text (R63)
  unfoldable pub text_exhibits : List ℕ
  text_exhibits = exhibits commands_of lengths_of generations_of reaches_of (of_text text).told.number (of_text text).sheet

  -- 10: the schedule that is printed is evidence against the one played, and what is said above it is so (R59, R63)
  pub record Against : Type 0 where
    pub disputes : Disputes commands_of lengths_of offered (against commands_of lengths_of reaches_of (first_kept (of_text text).sheet))
    pub so : let τ = against commands_of lengths_of reaches_of (first_kept (of_text text).sheet) in Says commands_of lengths_of generations_of τ (what_is_shown commands_of lengths_of generations_of τ)

  -- 11: of a pair, the two schedules that are printed have it in the orders that are said above them (R60, R63)
  pub record BothOrders (p : Pair) : Type 0 where
    pub x_first : HasBefore commands_of lengths_of p.first p.second (first_first commands_of lengths_of reaches_of p)
    pub y_first : HasBefore commands_of lengths_of p.second p.first (second_first commands_of lengths_of reaches_of p)

-- The contract of `review_text_evidence`: n is the answer, and the report room held `room` and then holds `room'` (R63).
pub record TextEvidenced (text room room' : List ℕ) (n : ℕ) : Type 0 where
  -- 14: a short report room, tested before all else, room untouched (R54)
  pub refuses : length room < least_evidence → (n ≡ 14) × (room' ≡ room)
  -- else the verdict number alone, and the report with the exhibits after it: all of them hang on the text alone; bytes after those are kept (R55, R56)
  pub answers : least_evidence ≤ length room → n ≡ (of_text text).told.number
  pub prints : least_evidence ≤ length room → room' ≡ over (report (of_text text) ++ text_exhibits text) room
  pub demand₃ : least_evidence ≤ length room → JudgesText text n
  pub reuse : n ≡ 10 → Against text
  pub races : n ≡ 11 → (k : ℕ) → k < length (kept_pairs (of_text text).sheet) → BothOrders text (get_or (kept_pairs (of_text text).sheet) k (pair 0 0))
