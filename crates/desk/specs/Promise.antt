-- What the text review promises (D1 to D3, R52 to R56).
use Rattle.std.specs.Prelude.{◌≡◌, ◌⊎◌, ◌↔◌, true, List, ℕ, ◌*◌, ◌≤◌, ◌<◌, length}
use Rattle.tables.specs.Limits.{most_rows, most_threads}
use Rattle.rules.specs.Rules.{checked}
use Rattle.verdicts.specs.Verdicts.{tell}
use Rattle.verdicts.specs.Numbers.{is_complete, settles, disagrees, is_unread}
use Rattle.verdicts.specs.declared.Told.{Told}
use Rattle.spelling.specs.Machine.{flat}
use Rattle.tables.specs.Over.{over}
use Rattle.grammar.specs.Grammar.{Listing, Denotes, all_commands, threads, listing_rows, listing_lengths}
use Rattle.notation.specs.Reading.{most_bytes}
use Rattle.notation.specs.Promise.{Within, RefusedAt}
use Rattle.replay.specs.Schedules.{Agree, Disagree}
use Rattle.review.specs.Agreement.{SameOrder}
use Rattle.desk.specs.Conclusion.{of_text}
use Rattle.report.specs.Report.{report}

-- a report room has at least so many bytes (R54)
unfoldable pub least_room : ℕ
least_room = 192

-- the numbers of a listing's command table
abbrev pub numbers : Listing → List ℕ
numbers x = flat (listing_rows x)

-- The text denotes the listing, which is within the limits, and its rows keep the rules (D3).
pub record Reviewable (text : List ℕ) (x : Listing) : Type 0 where
  pub denotes : Denotes text x
  pub within : Within text (most_rows * 3) most_threads x
  pub keeps : checked (numbers x) (listing_lengths x) ≡ tell 0 0 0

-- The third demand, of a text and the number that it is answered with (D3).
pub record JudgesText (text : List ℕ) (n : ℕ) : Type 0 where
  -- 0 or 11 exactly when every legal complete schedule of the text's listing ends clean with the same generation for each command
  pub agreement : (settles n ≡ true) ↔ ((x : Listing) × Reviewable text x × Agree (numbers x) (listing_lengths x))
  -- 0 exactly when, besides, every two conflicting accesses stand in the same order in all of them
  pub order : (n ≡ 0) ↔ ((x : Listing) × Reviewable text x × Agree (numbers x) (listing_lengths x) × SameOrder (numbers x) (listing_lengths x))
  -- 7 to 10 only where that agreement fails
  pub disagreement : disagrees n ≡ true → (x : Listing) × Reviewable text x × Disagree (numbers x) (listing_lengths x)

-- Which numbers there are, and what 3, 12 and 13 say of the text. Its rooms are full ones, so it never answers 4, and 13 only past the limits; its tables are of the
-- reader's making and its schedule of the writer's, so 1, 2, 5 and 6 don't come either (D1, R53).
pub record Possible (text : List ℕ) (t : Told) : Type 0 where
  pub some : (is_complete t.number ≡ true) ⊎ (t.number ≡ 3) ⊎ (is_unread t.number ≡ true)
  pub broken : t.number ≡ 3 → (x : Listing) × Denotes text x × (t ≡ checked (numbers x) (listing_lengths x))
  pub unfit : t.number ≡ 12 → RefusedAt text t.place
  pub too_much : t.number ≡ 13
      → (most_bytes < length text)
      ⊎ ((x : Listing) × Denotes text x × ((most_rows < length (all_commands (threads x))) ⊎ (most_threads < length (threads x))))

-- The contract of `review_text`: n is the answer, and the report room held `room` and then holds `room'` (D1, D2, R52).
pub record TextReviewed (text room room' : List ℕ) (n : ℕ) : Type 0 where
  -- 14: a short report room, tested before all else, room untouched (R54)
  pub refuses : length room < least_room → (n ≡ 14) × (room' ≡ room)
  -- else the verdict number alone (R56), and the report: both hang on the text alone (OneReport says more); bytes after the report are kept (R55)
  pub answers : least_room ≤ length room → n ≡ (of_text text).told.number
  pub prints : least_room ≤ length room → room' ≡ over (report (of_text text)) room
  pub demand₃ : least_room ≤ length room → JudgesText text n
